-- A run over any list of days, and demand 3.
use Rattle.std.specs.Prelude.{◌≡◌, List, [], ◌∷◌, ℕ, ◌+◌, ◌-◌, ◌≤◌, get_or}
use Rattle.theory.specs.Sums.{sum}
use Rattle.paper.specs.Setup.{Setup, cells}
use Rattle.paper.specs.State.{State, Day, soil_at, snow_at}
use Rattle.paper.specs.Refusals.{accepted}
use Rattle.paper.specs.Day.{Results, Outcome, day_of}

-- where a run stands: its state, the results of its last day, and what has left the soil and the snow so far, rejected recharge as the totals
-- count it, in closed depressions alone
pub record Standing : Type 0 where
  pub state : State
  pub results : Results
  pub evapotranspired : ℕ
  pub recharged : ℕ
  pub rejected : ℕ
  pub gone : ℕ

unfoldable pub start : State → Results → Standing
start st r = record { state = st; results = r; evapotranspired = 0; recharged = 0; rejected = 0; gone = 0 }

unfoldable pub after_day : Standing → Outcome → Standing
after_day run o =
    record {
      state = o.state;
      results = o.results;
      evapotranspired = run.evapotranspired + o.totals.evapotranspired;
      recharged = run.recharged + o.totals.recharged;
      rejected = run.rejected + o.totals.rejected;
      gone = run.gone + o.totals.gone;
    }

unfoldable pub one_day : Setup → Standing → Day → Standing
one_day s run d = after_day run (day_of s run.state run.results d)

-- the days of a list, one after another
unfoldable pub days : Setup → Standing → List Day → Standing
days s run [] = run
days s run (d ∷ ds) = days s (one_day s run d) ds

-- every day of the list is accepted
unfoldable pub Accepted : Setup → Standing → List Day → Type 0
Accepted s run [] = Unit {0}
Accepted s run (d ∷ ds) =
    ((day_of s run.state run.results d).verdict ≡ accepted) × Accepted s (one_day s run d) ds

-- soil and snow of all cells
unfoldable pub stored : Setup → State → ℕ
stored s st = sum (cells s) (λ i. soil_at st i + snow_at st i)

-- states alike, their frost indexes too, except that the second holds at least as much soil water and snow in every cell
pub record Wetter (first second : State) : Type 0 where
  pub soil : (i : ℕ) → soil_at first i ≤ soil_at second i
  pub snow : (i : ℕ) → snow_at first i ≤ snow_at second i
  pub past : first.past ≡ second.past

-- each cell's figure in the second list is no smaller
unfoldable pub NoSmaller : List ℕ → List ℕ → Type 0
NoSmaller first second = (i : ℕ) → get_or first i 0 ≤ get_or second i 0

-- Demand 3: from the starts, `first` and `second` after the same days
pub record Demand3 (s : Setup) (first_start second_start : State) (first second : Standing) : Type 0 where
  -- the last day's figures of every cell
  pub outflow : NoSmaller first.results.outflow second.results.outflow
  pub evapotranspiration : NoSmaller first.results.evapotranspired second.results.evapotranspired
  pub recharge : NoSmaller first.results.recharged second.results.recharged
  pub rejected : NoSmaller first.results.rejected second.results.rejected
  -- the end stores of every cell
  pub soil : NoSmaller first.state.soil second.state.soil
  pub snow : NoSmaller first.state.snow second.state.snow
  -- the sums so far
  pub more_evapotranspired : first.evapotranspired ≤ second.evapotranspired
  pub more_recharged : first.recharged ≤ second.recharged
  pub more_rejected : first.rejected ≤ second.rejected
  pub more_gone : first.gone ≤ second.gone
  -- the extra water at the start is, to the last unit, the extra evapotranspired, recharged, rejected (in closed depressions) and gone so far plus
  -- the extra still stored
  pub account :
      stored s second_start - stored s first_start
      ≡ (second.evapotranspired - first.evapotranspired)
      + (second.recharged - first.recharged)
      + (second.rejected - first.rejected)
      + (second.gone - first.gone)
      + (stored s second.state - stored s first.state)
