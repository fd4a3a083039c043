-- A refusal's place is at most 4,096, so that it fits the number that a call returns: every place of a test is an entry
-- of a table of 64, a cell, or the cell count, and cells are looked at only where the grid fits.
use mathlib.Core.Bool.{◌&&◌}
use mathlib.Core.List.{List, [], ◌∷◌, ◌++◌}
use mathlib.Core.Path.{◌≡◌, refl}
use Prim.Native.Nat.{ℕ, ◌%◌, ◌<◌, ◌≤◌}
use native.Mathlib.Omega.{arith}
use lib.Dec.{eqb, leb}
use lib.ListN.{length}
use borrow.Author.Tests.{leb-true}
use Rattle.theory.specs.Lowest.{Found, at, nowhere, lowest}
use Rattle.theory.proofs.Cases.{by_cases, and_right, cond_true, cond_false}
use Rattle.theory.proofs.LowestLaws.{lowest_at}
use Rattle.paper.specs.Covers.{entries, size_fits}
use Rattle.paper.specs.Setup.{Setup, Grid, cells_of, grid_fits}
use Rattle.paper.specs.State.{State, Day}
use Rattle.paper.specs.Refusals.{grid, place_of, verdict_place, Test, verdict, single, judged, cover_places, setup_tests, map_tests, day_tests}
use Rattle.paper.proofs.RefusalLaws.{fail_single, pass_single}
use Rattle.clib.specs.Narrow.{narrow}

pub near_fits : {place : ℕ} → place ≤ 4096 → place < narrow
near_fits h = omega arith

-- every place of the tests is at most 4,096
unfoldable Near : List Test → Type 0
Near [] = Unit {0}
Near (t ∷ ts) = ((i : ℕ) → i < t.places → place_of (t.called i) ≤ 4096) × Near ts

near : (ts : List Test) → Near ts → verdict_place (verdict ts) ≤ 4096
unfolding Near verdict verdict_place
near [] n = omega arith
near (t ∷ ts) n = go (lowest t.places t.fails) refl (near ts n.1)
  where
    go : (f : Found) → lowest t.places t.fails ≡ f → verdict_place (verdict ts) ≤ 4096
        → verdict_place (judged f t.called (verdict ts)) ≤ 4096
    go (at i) e rest = unfold judged verdict_place in (n.0 i (lowest_at _ _ e).0)
    go nowhere e rest = unfold judged in rest

-- with the grid's test before them
after_grid : (g : Grid) (ts : List Test) → (cells_of g ≤ 4096 → Near ts) → verdict_place (verdict (single (grid_fits g) grid ∷ ts)) ≤ 4096
unfolding grid_fits verdict_place place_of
after_grid g ts n =
    by_cases (grid_fits g)
    (λ e. rw (pass_single ts (grid_fits g) grid e) (near ts (n (leb-true _ _ (and_right (leb 1 g.width && leb 1 g.height) _ e)))))
    (λ e. rw (fail_single ts (grid_fits g) grid e) (omega arith))

few_entries : (covers : List ℕ) → cover_places covers ≤ 64
unfolding cover_places size_fits
few_entries covers =
    by_cases (size_fits covers)
    (λ e. rw (cond_true (size_fits covers) e) (leb-true _ _ (and_right (leb 1 (entries covers)) _ (and_right (eqb (length covers % 16) 0) _ e))))
    (λ e. rw (cond_false (size_fits covers) e) (omega arith))

module _ (s : Setup) (lengths : List ℕ) where
  pub setup_near : verdict_place (verdict (setup_tests s lengths)) ≤ 4096
  unfolding setup_tests map_tests single Near place_of
  setup_near =
      after_grid s.grid _
      (λ h. (λ i k. omega arith, (λ i k. omega (arith, few_entries s.covers), (λ i k. omega arith, (λ i k. omega arith, (λ i k. omega arith, tt))))))

  pub day_near : (st : State) (d : Day) → verdict_place (verdict (setup_tests s lengths ++ day_tests s st d)) ≤ 4096
  unfolding setup_tests map_tests day_tests single Near place_of
  day_near st d =
      after_grid s.grid _
      (λ h. (λ i k. omega arith, (λ i k. omega (arith, few_entries s.covers), (λ i k. omega arith, (λ i k. omega arith, (λ i k. omega arith, (λ i k. omega arith, (λ i k. omega arith, (λ i k. omega arith, (λ i k. omega arith, tt))))))))))
