-- What comes back when it says no: the tests in the order of the numbers, each with its place.
use Rattle.std.specs.Prelude.{Bool, cond, not, ◌&&◌, List, [], ◌∷◌, ◌++◌, ℕ, suc, eqb, ltb, length}
use Rattle.theory.specs.Lowest.{Found, at, nowhere, lowest}
use Rattle.theory.specs.Ways.{on_ring}
use Rattle.paper.specs.Limits.{most_snow}
use Rattle.paper.specs.Covers.{size_fits, entries, entry_fits}
use Rattle.paper.specs.Setup.{Setup, Cell, cell, cells, grid_fits, climate_fits, cell_fits, next}
use Rattle.paper.specs.State.{State, Day, stores_fit, past_fits, day_fits, follows, snow_at}
use Rattle.paper.specs.CellDay.{Today, today, store_of}

-- what is wrong
pub data Refusal : Type 0 where
  grid : Refusal
  lent : Refusal
  cover_table : ℕ → Refusal
  cell_numbers : ℕ → Refusal
  ring : ℕ → Refusal
  climate : Refusal
  day_record : Refusal
  serial_gap : Refusal
  state_at : ℕ → Refusal
  snowfall : ℕ → Refusal

-- the paper's number
unfoldable pub number_of : Refusal → ℕ
number_of grid = 1
number_of lent = 2
number_of (cover_table e) = 3
number_of (cell_numbers i) = 4
number_of (ring i) = 5
number_of climate = 6
number_of day_record = 7
number_of serial_gap = 8
number_of (state_at i) = 9
number_of (snowfall i) = 10

-- the paper's place
unfoldable pub place_of : Refusal → ℕ
place_of grid = 0
place_of lent = 0
place_of (cover_table e) = e
place_of (cell_numbers i) = i
place_of (ring i) = i
place_of climate = 0
place_of day_record = 0
place_of serial_gap = 0
place_of (state_at i) = i
place_of (snowfall i) = i

pub data Verdict : Type 0 where
  accepted : Verdict
  refused : Refusal → Verdict

-- the number and the place that come back: 0 and 0 where all tests pass
unfoldable pub verdict_number : Verdict → ℕ
verdict_number accepted = 0
verdict_number (refused why) = number_of why

unfoldable pub verdict_place : Verdict → ℕ
verdict_place accepted = 0
verdict_place (refused why) = place_of why

-- a test of some places, and what its failure at a place is called
pub record Test : Type 0 where
  pub places : ℕ
  pub fails : ℕ → Bool
  pub called : ℕ → Refusal

-- a test of one place
unfoldable pub single : Bool → Refusal → Test
single fits r = record { places = 1; fails = λ i. not fits; called = λ i. r }

unfoldable pub judged : Found → (ℕ → Refusal) → Verdict → Verdict
judged (at i) called rest = refused (called i)
judged nowhere called rest = rest

-- the first test that fails, at its lowest place
unfoldable pub verdict : List Test → Verdict
verdict [] = accepted
verdict (t ∷ ts) = judged (lowest t.places t.fails) t.called (verdict ts)

-- a lent slice is exactly one entry per cell
unfoldable pub one_each : ℕ → List ℕ → Bool
one_each n [] = Bool.true
one_each n (l ∷ ls) = eqb l n && one_each n ls

-- the lengths of the setup's slices
unfoldable pub setup_lengths : Setup → List ℕ
setup_lengths s = length s.direction ∷ length s.cover ∷ length s.group ∷ length s.available ∷ []

-- 3: a size outside its limits is found at 0, before any entry is looked at
unfoldable pub cover_places : List ℕ → ℕ
cover_places covers = cond (size_fits covers) (entries covers) 1

unfoldable pub cover_fits : List ℕ → ℕ → Bool
cover_fits covers e = size_fits covers && entry_fits covers e

abbrev pub cover_test : List ℕ → Test
cover_test covers = record { places = cover_places covers; fails = λ e. not (cover_fits covers e); called = cover_table }

-- tests 3 and 4: the cover table, and each cell's own numbers
abbrev pub table_tests : Setup → List Test
table_tests s =
    cover_test s.covers ∷ record { places = cells s; fails = λ i. not (cell_fits s i); called = cell_numbers } ∷ []

-- tests 5 and 6: rings, and the climate
abbrev pub flow_tests : Setup → List Test
flow_tests s =
    record { places = cells s; fails = λ i. on_ring (cells s) (next s) i; called = ring }
    ∷ single (climate_fits s.climate) climate
    ∷ []

-- tests 3 to 6
unfoldable pub map_tests : Setup → List Test
map_tests s = table_tests s ++ flow_tests s

-- tests 1 and 2, with the lengths of the lent slices, before others
abbrev pub lent_first : Setup → List ℕ → List Test → List Test
lent_first s lengths ts = single (grid_fits s.grid) grid ∷ single (one_each (cells s) lengths) lent ∷ ts

-- tests 1 to 6
unfoldable pub setup_tests : Setup → List ℕ → List Test
setup_tests s lengths = lent_first s lengths (map_tests s)

-- 9: each cell's stores, then the memory, the last serial and the frost index at the cell count
unfoldable pub state_fits : Setup → State → ℕ → Bool
state_fits s st i = cond (ltb i (cells s)) (stores_fit s st i) (past_fits st.past)

-- 10: snowfall would take the store past 10,000,000
unfoldable pub too_deep : Cell → Today → ℕ → Bool
too_deep c t snow = not c.open? && ltb most_snow (store_of c t snow)

-- tests 7 to 10
unfoldable pub day_tests : Setup → State → Day → List Test
day_tests s st d =
    single (day_fits d) day_record
    ∷ single (follows st.past.last d.serial) serial_gap
    ∷ record { places = suc (cells s); fails = λ i. not (state_fits s st i); called = state_at }
    ∷ record {
      places = cells s;
      fails = λ i. too_deep (cell s i) (today s.climate st.past d) (snow_at st i);
      called = snowfall;
    }
    ∷ []
