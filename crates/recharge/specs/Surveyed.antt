-- What a day asks for of a setup that its survey has passed.
use Rattle.std.specs.Prelude.{true, List, [], ◌∷◌, ◌≡◌, ℕ, length}
use Rattle.paper.specs.Setup.{Setup, cells}
use Rattle.paper.specs.State.{State, Day}
use Rattle.paper.specs.Refusals.{accepted, one_each}
use Rattle.paper.specs.Day.{Results, Outcome, check_of, day_of}
use Rattle.records.specs.Grids.{setup_as}
use Rattle.records.specs.declared.grids.Grid.{Grid}
use Rattle.records.specs.declared.grids.Climate.{Climate}
use Rattle.survey.specs.Charts.{Mapped}

-- the lengths of what a day is lent besides its setup
abbrev pub lent_lengths : State → Results → List ℕ
lent_lengths st r =
    length st.soil
    ∷ length st.snow
    ∷ length r.intercepted
    ∷ length r.outflow
    ∷ length r.evapotranspired
    ∷ length r.recharged
    ∷ length r.rejected
    ∷ []

-- the setup has passed, the arrays are what its survey left, and there is one entry a cell in the stores and the results
pub record DayReady (s : Setup) (slots ways order : List ℕ) (st : State) (r : Results) : Type 0 where
  pub passed : check_of s ≡ accepted
  pub slots₀ : List ℕ
  pub ways₀ : List ℕ
  pub mapped : Mapped s slots₀ ways₀ slots ways order
  pub each : one_each (cells s) (lent_lengths st r) ≡ true

-- of some directions, covers and groups of the cells
pub record SomeReady (grid : Grid) (climate : Climate) (covers available slots ways order : List ℕ) (st : State) (r : Results) : Type 0 where
  pub direction : List ℕ
  pub cover : List ℕ
  pub group : List ℕ
  pub ready : DayReady (setup_as grid climate covers direction cover group available) slots ways order st r

-- of every setup that it is ready for, the outcome is the day's
pub record Answered (grid : Grid) (climate : Climate) (covers available slots ways order : List ℕ) (st : State) (r : Results) (d : Day) (o : Outcome) : Type 0 where
  pub is :
      (direction cover group : List ℕ)
      → DayReady (setup_as grid climate covers direction cover group available) slots ways order st r
      → o ≡ day_of (setup_as grid climate covers direction cover group available) st r d
