-- The fresh state and the day as C sees them: the returned number, and all that was lent at the end.
use Rattle.std.specs.Prelude.{List, ◌≡◌, ℕ}
use Rattle.paper.specs.Setup.{Setup}
use Rattle.paper.specs.State.{State, Day, Past}
use Rattle.paper.specs.Day as paper
use Rattle.clib.specs.Numbers.{returned, memory_list, last_number, past_from, totals_list}

-- a state as it is lent
pub record Stores : Type 0 where
  pub soil : List ℕ
  pub snow : List ℕ
  pub memory : List ℕ
  pub last : ℕ
  pub frost : ℕ

abbrev pub stores_from : List ℕ → List ℕ → List ℕ → ℕ → ℕ → Stores
stores_from soil snow memory last frost = record { soil = soil; snow = snow; memory = memory; last = last; frost = frost }

unfoldable pub state_from : Stores → State
state_from l = record { soil = l.soil; snow = l.snow; past = past_from l.memory l.last l.frost }

unfoldable pub stores_of : State → Stores
stores_of st = stores_from st.soil st.snow (memory_list st.past.memory) (last_number st.past.last) st.past.frost

-- a past as it is written back
pub record Kept (p : Past) (memory : List ℕ) (last frost : ℕ) : Type 0 where
  pub memory_is : memory ≡ memory_list p.memory
  pub last_is : last ≡ last_number p.last
  pub frost_is : frost ≡ p.frost

-- what a fresh state's call hands back
pub record Begun : Type 0 where
  pub number : ℕ
  pub stores : Stores

abbrev pub begun : ℕ → Stores → Begun
begun number stores = record { number = number; stores = stores }

unfoldable pub begun_as : paper.Fresh → Begun
begun_as o = begun (returned o.verdict) (stores_of o.state)

unfoldable pub fresh_gives : Setup → List ℕ → List ℕ → Begun
fresh_gives s soil snow = begun_as (paper.fresh_of s soil snow)

-- what a day's call hands back
pub record Handed : Type 0 where
  pub number : ℕ
  pub stores : Stores
  pub results : paper.Results
  pub totals : List ℕ

abbrev pub results_from : List ℕ → List ℕ → List ℕ → List ℕ → List ℕ → paper.Results
results_from intercepted outflow evapotranspired recharged rejected =
    record {
      intercepted = intercepted;
      outflow = outflow;
      evapotranspired = evapotranspired;
      recharged = recharged;
      rejected = rejected;
    }

abbrev pub handed : ℕ → Stores → paper.Results → List ℕ → Handed
handed number stores results totals =
    record { number = number; stores = stores; results = results; totals = totals }

unfoldable pub handed_as : paper.Outcome → Handed
handed_as o =
    handed (returned o.verdict) (stores_of o.state) o.results (totals_list o.totals)

unfoldable pub day_gives : Setup → Stores → paper.Results → Day → Handed
day_gives s l r d = handed_as (paper.day_of s (state_from l) r d)
