-- What the calls hand back, as the paper's.
use Rattle.std.specs.Prelude.{List, ℕ, Result, Ok, Err}
use Rattle.paper.specs.State.{no_past}
use Rattle.paper.specs.Refusals.{Verdict, accepted, refused}
use Rattle.paper.specs.Day as paper
use Rattle.records.specs.Past.{state_as}
use Rattle.records.specs.Verdicts.{refusal_as}
use Rattle.records.specs.declared.past.Past.{Past}
use Rattle.records.specs.declared.verdicts.Refusal.{Refusal}
use Rattle.records.specs.declared.answers.Totals.{Totals}

abbrev pub totals_as : Totals → paper.Totals
totals_as t =
    record {
      gross = t.gross.0;
      intercepted = t.intercepted.0;
      evapotranspired = t.evapotranspired.0;
      recharged = t.recharged.0;
      rejected = t.rejected.0;
      gone = t.gone.0;
      stored = t.stored.0;
    }

-- a fresh state's answer with the lent stores as it left them: refused, it has no rain, no serial and no frost
abbrev pub fresh_as : Result Past Refusal → List ℕ → List ℕ → paper.Fresh
fresh_as (Ok past) soil snow = record { verdict = accepted; state = state_as soil snow past }
fresh_as (Err why) soil snow =
    record { verdict = refused (refusal_as why); state = record { soil = soil; snow = snow; past = no_past } }

abbrev pub results_as : List ℕ → List ℕ → List ℕ → List ℕ → List ℕ → paper.Results
results_as intercepted outflow evapotranspired recharged rejected =
    record {
      intercepted = intercepted;
      outflow = outflow;
      evapotranspired = evapotranspired;
      recharged = recharged;
      rejected = rejected;
    }

-- a day's verdict and totals: refused, it has none
abbrev pub answered : Result Totals Refusal → Verdict
answered (Ok totals) = accepted
answered (Err why) = refused (refusal_as why)

abbrev pub totals_told : Result Totals Refusal → paper.Totals
totals_told (Ok totals) = totals_as totals
totals_told (Err why) = paper.no_totals

-- a day's answer with the lent stores, past and results as it left them: refused, it has no totals
abbrev pub outcome_as : Result Totals Refusal → List ℕ → List ℕ → Past → paper.Results → paper.Outcome
outcome_as (Ok totals) soil snow past results =
    record { verdict = accepted; results = results; totals = totals_as totals; state = state_as soil snow past }
outcome_as (Err why) soil snow past results =
    record { verdict = refused (refusal_as why); results = results; totals = paper.no_totals; state = state_as soil snow past }
