-- Test 9 as the code asks it, of a cell's slot: it does not look at where the cell points, so any way serves.
use Rattle.std.specs.Prelude.{Bool, cond, not, ◌&&◌, List, [], ◌∷◌, ◌++◌, ℕ, suc, leb, ltb, length, get_or}
use Rattle.paper.specs.Setup.{Grid, cells_of, grid_fits}
use Rattle.paper.specs.State.{Past, most_soil_of, most_snow_of, past_fits}
use Rattle.paper.specs.Refusals.{Test, single, grid, lent, state_at, one_each}
use Rattle.covers.specs.Slots.{cell_from}

-- a cell's stores are within their limits
unfoldable pub stores_from : List ℕ → ℕ → ℕ → ℕ → ℕ → Bool
stores_from covers slot available soil snow =
    leb soil (most_soil_of (cell_from covers slot available 0)) && leb snow (most_snow_of (cell_from covers slot available 0))

unfoldable pub stores_at : List ℕ → List ℕ → List ℕ → List ℕ → List ℕ → ℕ → Bool
stores_at covers slots available soil snow i = stores_from covers (get_or slots i 0) (get_or available i 0) (get_or soil i 0) (get_or snow i 0)

-- tests 1 and 2 of some of the lent slices
unfoldable pub lent_tests : Grid → List ℕ → List Test
lent_tests g lengths = single (grid_fits g) grid ∷ single (one_each (cells_of g) lengths) lent ∷ []

-- each cell's stores, then the past at the cell count
abbrev pub state_test : Grid → List ℕ → List ℕ → List ℕ → List ℕ → List ℕ → Past → Test
state_test g covers slots available soil snow past =
    record {
      places = suc (cells_of g);
      fails = λ i. not (cond (ltb i (cells_of g)) (stores_at covers slots available soil snow i) (past_fits past));
      called = state_at;
    }

-- tests 1 and 2 of the slices that test 9 looks at, and test 9
unfoldable pub state_tests : Grid → List ℕ → List ℕ → List ℕ → List ℕ → List ℕ → Past → List Test
state_tests g covers slots available soil snow past =
    lent_tests g (length available ∷ length soil ∷ length snow ∷ []) ++ (state_test g covers slots available soil snow past ∷ [])
