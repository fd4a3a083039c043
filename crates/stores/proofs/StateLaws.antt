-- Test 9 by slots: a cell's limits are those of its root depth and of open water; and the test looks at every cell's stores, and then, at the cell
-- count, at the past.
use mathlib.Core.Path.{◌≡◌, refl, ap, ◌∙◌}
use mathlib.Core.Bool.{Bool, true, false, cond, not, ◌&&◌}
use mathlib.Core.List.{List, [], ◌∷◌}
use Prim.Native.Nat.{ℕ, suc, ◌*◌, ◌≤◌, ◌<◌}
use native.Mathlib.Nat.{le_refl}
use lib.Dec.{leb, ltb}
use lib.ListN.{length, get_or}
use borrow.Author.Tests.{lt-ltb, le-ltb, leb-true, eqb-true}
use Rattle.theory.specs.Lists.{made}
use Rattle.theory.specs.Lowest.{Found, at, nowhere, or_at, lowest}
use Rattle.theory.proofs.Cases.{cond_true, cond_false, and_left, and_right}
use Rattle.theory.proofs.LowestLaws.{lowest_cong}
use Rattle.paper.specs.Limits.{most_snow}
use Rattle.paper.specs.Setup.{Grid, cells_of, grid_fits}
use Rattle.paper.specs.State.{Past, most_snow_of, past_fits}
use Rattle.paper.specs.Refusals.{grid, lent, state_at, accepted, refused, verdict, one_each}
use Rattle.paper.proofs.RefusalLaws.{pass_single, fail_single, pass_many, fail_many}
use Rattle.covers.specs.Slots.{open_at, group_number_at, cell_from}
use Rattle.covers.proofs.SlotLaws.{soil_most, root_at}
use Rattle.stores.specs.States.{stores_from, stores_at, lent_tests, state_test, state_tests}

pub stores_limits : (covers roots : List ℕ) → roots ≡ made 256 (group_number_at covers 11) → (slot available soil snow : ℕ) → slot < 256
    → (leb soil (available * get_or roots slot 0) && leb snow (cond (open_at covers slot) 0 most_snow)) ≡ stores_from covers slot available soil snow
unfolding stores_from most_snow_of cell_from
stores_limits covers roots e slot available soil snow h =
    rw (root_at covers roots slot e h, soil_most covers slot available 0) refl

pub few_cells : (g : Grid) → grid_fits g ≡ true → cells_of g ≤ 4096
unfolding grid_fits
few_cells g e = leb-true _ _ (search (and_left, and_right))

pub three_each : (n a b c : ℕ) → one_each n (a ∷ b ∷ c ∷ []) ≡ true → (a ≡ n) × (b ≡ n) × (c ≡ n)
unfolding one_each
three_each n a b c e =
    (eqb-true _ _ (search (and_left, and_right)), eqb-true _ _ (search (and_left, and_right)), eqb-true _ _ (search (and_left, and_right)))

module _ (g : Grid) (covers slots available soil snow : List ℕ) (past : Past) where
  abbrev tests : List ℕ
  tests = length available ∷ length soil ∷ length snow ∷ []

  pub grid_bad : grid_fits g ≡ false → verdict (state_tests g covers slots available soil snow past) ≡ refused grid
  unfolding state_tests lent_tests
  grid_bad e = fail_single _ _ grid e

  module _ (fits : grid_fits g ≡ true) where
    pub lent_bad : one_each (cells_of g) tests ≡ false → verdict (state_tests g covers slots available soil snow past) ≡ refused lent
    unfolding state_tests lent_tests
    lent_bad e = pass_single _ _ grid fits ∙ fail_single _ _ lent e

    module _ (each : one_each (cells_of g) tests ≡ true) where
      pub test_nine : verdict (state_tests g covers slots available soil snow past) ≡ verdict (state_test g covers slots available soil snow past ∷ [])
      unfolding state_tests lent_tests
      test_nine = pass_single _ _ grid fits ∙ pass_single _ _ lent each

      -- the cells first, then the past
      state_search : lowest (suc (cells_of g)) (state_test g covers slots available soil snow past).fails
          ≡ or_at (lowest (cells_of g) (λ i. not (stores_at covers slots available soil snow i))) (cells_of g) (not (past_fits past))
      unfolding lowest
      state_search =
          ap (λ (f : Found). or_at f (cells_of g) ((state_test g covers slots available soil snow past).fails (cells_of g)))
          (lowest_cong (cells_of g) _ _ (λ i h. ap not (cond_true (ltb i (cells_of g)) (lt-ltb i (cells_of g) h) _ _)))
          ∙ ap (λ (b : Bool). or_at (lowest (cells_of g) (λ i. not (stores_at covers slots available soil snow i))) (cells_of g) (not b))
          (cond_false (ltb (cells_of g) (cells_of g)) (le-ltb (cells_of g) (cells_of g) (le_refl (cells_of g))) _ _)

      pub store_bad : (i : ℕ) → lowest (length available) (λ k. not (stores_at covers slots available soil snow k)) ≡ at i
          → verdict (state_tests g covers slots available soil snow past) ≡ refused (state_at i)
      unfolding or_at
      store_bad i found =
          let all : length available ≡ cells_of g = (three_each _ _ _ _ each).0 in
          test_nine ∙ fail_many [] (state_test g covers slots available soil snow past) i (state_search ∙ rw (rw all at found) refl)

      module _ (stores : lowest (length available) (λ k. not (stores_at covers slots available soil snow k)) ≡ nowhere) where
        none : lowest (cells_of g) (λ k. not (stores_at covers slots available soil snow k)) ≡ nowhere
        none = let all : length available ≡ cells_of g = (three_each _ _ _ _ each).0 in rw all at stores

        pub past_bad : past_fits past ≡ false → verdict (state_tests g covers slots available soil snow past) ≡ refused (state_at (cells_of g))
        unfolding or_at
        past_bad e = test_nine ∙ fail_many [] (state_test g covers slots available soil snow past) (cells_of g) (state_search ∙ rw (none, e) refl)

        pub state_good : past_fits past ≡ true → verdict (state_tests g covers slots available soil snow past) ≡ accepted
        unfolding or_at verdict
        state_good e = test_nine ∙ pass_many [] (state_test g covers slots available soil snow past) (state_search ∙ rw (none, e) refl)
