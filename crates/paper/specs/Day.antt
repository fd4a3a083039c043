-- The three calls: the setup check, the fresh state and one day, each for every input, refused or not.
use Rattle.std.specs.Prelude.{Bool, true, List, [], ◌∷◌, ◌++◌, ℕ, ◌+◌, length, replicate}
use Rattle.theory.specs.Lists.{made}
use Rattle.theory.specs.Sums.{sum, given}
use Rattle.paper.specs.Directions.{Goes, to, leaves, stays, open_water}
use Rattle.paper.specs.Setup.{Setup, cell, cells, goes, next}
use Rattle.paper.specs.State.{State, Day, no_past, past_after, fresh_state, soil_at, snow_at}
use Rattle.paper.specs.CellDay.{Today, today, own_of, passed_of, Figures, cell_day}
use Rattle.paper.specs.Flow.{arriving, water}
use Rattle.paper.specs.Refusals.{Verdict, accepted, refused, verdict, setup_lengths, setup_tests, day_tests}

-- the setup check
unfoldable pub check_of : Setup → Verdict
check_of s = verdict (setup_tests s (setup_lengths s))

-- a fresh state in lent stores: refused, the stores are as lent, with five zeros, none and no frost
pub record Fresh : Type 0 where
  pub verdict : Verdict
  pub state : State

unfoldable pub fresh_as : Setup → List ℕ → List ℕ → Verdict → Fresh
fresh_as s soil snow accepted = record { verdict = accepted; state = fresh_state s }
fresh_as s soil snow (refused r) =
    record { verdict = refused r; state = record { soil = soil; snow = snow; past = no_past } }

unfoldable pub fresh_of : Setup → List ℕ → List ℕ → Fresh
fresh_of s soil snow = fresh_as s soil snow (verdict (setup_tests s (setup_lengths s ++ length soil ∷ length snow ∷ [])))

-- the day's figures of every cell
module _ (s : Setup) (st : State) (t : Today) where
  unfoldable pub own : ℕ → ℕ
  own i = own_of (cell s i) t (snow_at st i)

  -- each cell's outflow for the water that reached it
  unfoldable pub passed : ℕ → ℕ → ℕ
  passed i w = passed_of (cell s i) t (soil_at st i) w

  unfoldable pub inflow : ℕ → ℕ
  inflow i = arriving (cells s) (next s) passed (water (cells s) (next s) passed own) i

  unfoldable pub figures : ℕ → Figures
  figures i = cell_day (cell s i) t (soil_at st i) (snow_at st i) (inflow i)

-- gone from the grid: the outflows of open-water cells and of other cells whose direction leaves the grid
unfoldable pub is_leaving : Goes → Bool
is_leaving (to j) = Bool.false
is_leaving leaves = true
is_leaving stays = Bool.false
is_leaving open_water = true

unfoldable pub is_gone : Setup → ℕ → Bool
is_gone s i = is_leaving (goes s i)

-- five results per cell
pub record Results : Type 0 where
  pub intercepted : List ℕ
  pub outflow : List ℕ
  pub evapotranspired : List ℕ
  pub recharged : List ℕ
  pub rejected : List ℕ

-- one entry a cell, before the first day
unfoldable pub no_results : ℕ → Results
no_results n =
    record {
      intercepted = replicate n 0;
      outflow = replicate n 0;
      evapotranspired = replicate n 0;
      recharged = replicate n 0;
      rejected = replicate n 0;
    }

pub record Totals : Type 0 where
  pub gross : ℕ
  pub intercepted : ℕ
  pub evapotranspired : ℕ
  pub recharged : ℕ
  pub rejected : ℕ
  pub gone : ℕ
  pub stored : ℕ

abbrev pub no_totals : Totals
no_totals =
    record { gross = 0; intercepted = 0; evapotranspired = 0; recharged = 0; rejected = 0; gone = 0; stored = 0 }

unfoldable pub results_of : ℕ → (ℕ → Figures) → Results
results_of n figure =
    record {
      intercepted = made n (λ i. (figure i).intercepted);
      outflow = made n (λ i. (figure i).outflow);
      evapotranspired = made n (λ i. (figure i).evapotranspired);
      recharged = made n (λ i. (figure i).recharged);
      rejected = made n (λ i. (figure i).rejected);
    }

-- sums over the cells; rejected recharge leaves the balance in closed depressions alone (02, M-104)
unfoldable pub totals_of : Setup → ℕ → (ℕ → Figures) → Totals
totals_of s gross figure =
    record {
      gross = sum (cells s) (λ i. gross);
      intercepted = sum (cells s) (λ i. (figure i).intercepted);
      evapotranspired = sum (cells s) (λ i. (figure i).evapotranspired);
      recharged = sum (cells s) (λ i. (figure i).recharged);
      rejected = sum (cells s) (λ i. given (cell s i).closed? (figure i).rejected);
      gone = sum (cells s) (λ i. given (is_gone s i) (figure i).outflow);
      stored = sum (cells s) (λ i. (figure i).soil + (figure i).snow);
    }

unfoldable pub next_state : Setup → State → Day → (ℕ → Figures) → State
next_state s st d figure =
    record {
      soil = made (cells s) (λ i. (figure i).soil);
      snow = made (cells s) (λ i. (figure i).snow);
      past = past_after st.past d;
    }

-- one day: with the lent results as they were before the call
pub record Outcome : Type 0 where
  pub verdict : Verdict
  pub results : Results
  pub totals : Totals
  pub state : State

unfoldable pub lengths_of : Setup → State → Results → List ℕ
lengths_of s st r =
    setup_lengths s
    ++ length st.soil
    ∷ length st.snow
    ∷ length r.intercepted
    ∷ length r.outflow
    ∷ length r.evapotranspired
    ∷ length r.recharged
    ∷ length r.rejected
    ∷ []

unfoldable pub verdict_of : Setup → State → Results → Day → Verdict
verdict_of s st r d = verdict (setup_tests s (lengths_of s st r) ++ day_tests s st d)

unfoldable pub figures_of : Setup → State → Day → ℕ → Figures
figures_of s st d = figures s st (today s.climate st.past d)

unfoldable pub outcome_as : Setup → State → Results → Day → Verdict → Outcome
outcome_as s st r d accepted =
    record {
      verdict = accepted;
      results = results_of (cells s) (figures_of s st d);
      totals = totals_of s d.gross (figures_of s st d);
      state = next_state s st d (figures_of s st d);
    }
outcome_as s st r d (refused why) = record { verdict = refused why; results = r; totals = no_totals; state = st }

unfoldable pub day_of : Setup → State → Results → Day → Outcome
day_of s st r d = outcome_as s st r d (verdict_of s st r d)
