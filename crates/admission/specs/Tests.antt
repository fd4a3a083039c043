-- The ten tests of a day as the code asks them, and what they leave.
use Rattle.std.specs.Prelude.{List, [], ◌∷◌, ◌++◌, ℕ}
use Rattle.paper.specs.Setup.{Setup, Grid}
use Rattle.paper.specs.State.{Past, State, Day, day_fits, follows}
use Rattle.paper.specs.Refusals.{Test, day_record, serial_gap, single, setup_lengths, setup_tests, day_tests}
use Rattle.stores.specs.States.{state_tests}
use Rattle.stores.specs.Snowfall.{snow_tests}
use Rattle.admission.specs.declared.tests.Lengths.{Lengths}

-- the lengths of the stores and of the results
abbrev pub day_lengths : ℕ → ℕ → Lengths → List ℕ
day_lengths soil snow r =
    soil ∷ snow ∷ r.intercepted ∷ r.outflow ∷ r.evapotranspired ∷ r.recharged ∷ r.rejected ∷ []

-- tests 7 to 10, the cells found by their slots
unfoldable pub later_tests : Grid → List ℕ → List ℕ → List ℕ → List ℕ → List ℕ → Past → Day → List ℕ → List Test
later_tests g covers slots available soil snow past d plots =
    single (day_fits d) day_record
    ∷ single (follows past.last d.serial) serial_gap
    ∷ (state_tests g covers slots available soil snow past ++ snow_tests plots slots snow)

-- all ten
abbrev pub all_tests : Setup → List ℕ → State → Day → List Test
all_tests s more st d = setup_tests s (setup_lengths s ++ more) ++ day_tests s st d
