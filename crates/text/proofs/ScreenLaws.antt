-- The tests before the run, one after another: what the ones passed say decides the screen down to the next.
use mathlib.Core.Path.{◌≡◌, refl, ◌∙◌}
use mathlib.Core.Bool.{Bool, true, false, ◌&&◌}
use mathlib.Core.List.{List}
use Prim.Native.Nat.{ℕ, ◌+◌, ◌*◌, ◌-◌, ◌%◌, ◌≤◌, ◌<◌}
use native.Mathlib.Omega.{arith}
use lib.Dec.{leb, eqb}
use lib.ListN.{length}
use borrow.Author.Tests.{lt-ltb, le-ltb, leb-true}
use Rattle.theory.proofs.Cases.{by_cases, below_or_not, and_left, and_right}
use Rattle.paper.specs.Setup.{cells_of, grid_fits}
use Rattle.text.specs.Program.{field, cover_count, cell_count, cells_from, days_from, is_complete, setup, screen, unfit}
use Rattle.text.specs.Run.{Complete}
use Rattle.text.specs.Taking.{layout_in}
use Rattle.text.specs.declared.screening.BadText.{BadText}
use Rattle.std.specs.Prelude.{Result, Ok, Err}

-- the tests as the code has them
abbrev pub grid_takes : ℕ → ℕ → Bool
grid_takes width height = grid_fits (record { width = width; height = height })

abbrev pub covers_take : ℕ → Bool
covers_take count = leb 1 count && leb count 64

abbrev pub needs : List ℕ → ℕ
needs ns = 5 + 16 * field ns 4 + 4 * (field ns 0 * field ns 1)

abbrev pub has_all : ℕ → ℕ → Bool
has_all count needed = leb needed count && eqb ((count - needed) % 7) 0

module _ (ns : List ℕ) where
  pub few_cells : grid_takes (field ns 0) (field ns 1) ≡ true → field ns 0 * field ns 1 ≤ 4096
  unfolding grid_fits cells_of
  few_cells e = leb-true (field ns 0 * field ns 1) 4096 (and_right (leb 1 (field ns 0) && leb 1 (field ns 1)) (leb (field ns 0 * field ns 1) 4096) e)

  pub few_covers : covers_take (field ns 4) ≡ true → field ns 4 ≤ 64
  few_covers e = leb-true (field ns 4) 64 (and_right (leb 1 (field ns 4)) (leb (field ns 4) 64) e)

  pub too_few : length ns < 2 → unfit 11 (length ns) ≡ screen ns
  unfolding screen
  too_few h = simp (lt-ltb (length ns) 2 h)

  module _ (two : 2 ≤ length ns) where
    pub no_grid : grid_takes (field ns 0) (field ns 1) ≡ false → unfit 1 0 ≡ screen ns
    unfolding screen setup
    no_grid e = simp (le-ltb (length ns) 2 two, e)

    module _ (grid : grid_takes (field ns 0) (field ns 1) ≡ true) where
      pub no_covers : length ns < 5 → unfit 11 (length ns) ≡ screen ns
      unfolding screen setup
      no_covers h = simp (le-ltb (length ns) 2 two, grid, lt-ltb (length ns) 5 h)

      module _ (five : 5 ≤ length ns) where
        pub bad_count : covers_take (field ns 4) ≡ false → unfit 3 0 ≡ screen ns
        unfolding screen setup cover_count
        bad_count e = simp (le-ltb (length ns) 2 two, grid, le-ltb (length ns) 5 five, e)

        module _ (covers : covers_take (field ns 4) ≡ true) where
          pub cut_off : has_all (length ns) (needs ns) ≡ false → unfit 11 (length ns) ≡ screen ns
          unfolding screen setup cover_count is_complete days_from cells_from cell_count
          cut_off e = simp (le-ltb (length ns) 2 two, grid, le-ltb (length ns) 5 five, covers, e)

          pub is_ready : has_all (length ns) (needs ns) ≡ true → Ok (field ns 0 * field ns 1) ≡ screen ns
          unfolding screen setup cover_count is_complete days_from cells_from cell_count
          is_ready e = simp (le-ltb (length ns) 2 two, grid, le-ltb (length ns) 5 five, covers, e)

-- numbers that pass are all there, and so many that every sum of them is small
pub ready : (ns : List ℕ) (k : ℕ) → screen ns ≡ Ok k → (k ≡ cell_count ns) × Complete ns (layout_in ns)
unfolding cover_count cell_count days_from cells_from
ready ns k e =
    below_or_not (length ns) 2 (λ h. never (too_few ns h))
    (λ two.
    by_cases (grid_takes (field ns 0) (field ns 1))
    (λ grid.
    below_or_not (length ns) 5 (λ h. never (no_covers ns two grid h))
    (λ five.
    by_cases (covers_take (field ns 4))
    (λ covers.
    by_cases (has_all (length ns) (needs ns))
    (λ all.
    let r : Ok (field ns 0 * field ns 1) ≡ Ok k = is_ready ns two grid five covers all ∙ e in (
      (cc),
      record {
        placed = refl;
        cells = few_cells ns grid;
        covers = few_covers ns covers;
        numbers = leb-true (needs ns) (length ns) (and_left (leb (needs ns) (length ns)) (eqb ((length ns - needs ns) % 7) 0) all);
      },
    ))
    (λ f. never (cut_off ns two grid five covers f)))
    (λ f. never (bad_count ns two grid five f))))
    (λ f. never (no_grid ns two f)))
  where
    never : {n p : ℕ} {P : Type 0} → unfit n p ≡ screen ns → P
    never {n} {p} r = absurd (let both : unfit n p ≡ Ok k = r ∙ e in let z : ◌≡◌ {A = ℕ} 0 1 = cc in omega arith)
