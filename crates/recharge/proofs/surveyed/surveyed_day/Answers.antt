-- `surveyed::surveyed_day` meets its contract: refused, it leaves what it was lent; accepted, the pass downhill is handed what the survey and the tests left.
use mathlib.Core.List.{List}
use mathlib.Core.Path.{◌≡◌, sym, ap, ◌∙◌}
use Prim.Native.Nat.{ℕ}
use lib.ListN.{replicate}
use Rattle.paper.specs.Setup.{Setup}
use Rattle.paper.specs.State.{State, Day}
use Rattle.paper.specs.CellDay.{Today, today}
use Rattle.paper.specs.Refusals.{accepted}
use Rattle.paper.specs.Day.{Results, verdict_of}
use Rattle.paper.proofs.DayLaws.{SoundDay, sound_day}
use Rattle.records.specs.Grids.{setup_as}
use Rattle.records.specs.Past.{past_as, state_as}
use Rattle.records.specs.Days.{day_as}
use Rattle.records.specs.Verdicts.{verdict_in}
use Rattle.records.specs.Answers.{results_as}
use Rattle.records.proofs.VerdictLaws.{accepted_back}
use Rattle.weather.specs.Today.{today_as}
use Rattle.recharge.specs.Downhill.{slices_of}
use Rattle.recharge.specs.Surveyed.{DayReady}
use Rattle.recharge.proofs.AnswerLaws.{ready, accepted_answer, refused_answer}
use Rattle.recharge.proofs.SurveyedLaws as laws
use Rattle.std.proofs.Common.{rules}
use Rattle.std.specs.Prelude.{Ok, Err}
use Rattle.recharge.proofs.surveyed.surveyed_day.Goals.{After-day_verdict}
use Rattle.recharge.proofs.surveyed.surveyed_day.Goals as goal

-- what was handed over, as the paper's, with some directions, covers and groups; the day's weather, and what the tests left of the array by slot
abbrev state : goal.After-day_verdict → State
state c = state_as c.args.soil.now c.args.snow.now c.args.past.now

abbrev results : goal.After-day_verdict → Results
results c =
    results_as c.args.intercepted.now c.args.outflow.now c.args.evapotranspired.now c.args.recharged.now c.args.rejected.now

abbrev date : goal.After-day_verdict → Day
date c = day_as c.args.day

abbrev weathered : goal.After-day_verdict → Today
weathered c = today_as c.today_of-today.result

module _ (direction cover group : List ℕ) (c : goal.After-day_verdict) where
  abbrev setup : Setup
  setup = setup_as c.args.grid c.args.climate c.args.covers.now direction cover group c.args.available.now

  module _ (ok : DayReady setup c.args.slots.now c.args.ways.now c.args.order.now (state c) (results c)) where
    told : c.day_verdict.result ≡ verdict_in (verdict_of setup (state c) (results c) (date c))
    told =
        laws.told setup (state c) (results c) (date c) _ _ _ ok (weathered c) c.today_of-today.ensures
        (replicate 1536 0) c.day_verdict.new.plots c.day_verdict.ensures.0 _ c.day_verdict.ensures.1

    -- an accepted day passed all the tests
    module _ (accepts : c.day_verdict.result ≡ Ok tt) where
      passed : verdict_of setup (state c) (results c) (date c) ≡ accepted
      passed = accepted_back _ (sym accepts ∙ told)

      sound : SoundDay setup (state c) (results c) (date c)
      sound = sound_day setup (state c) (results c) (date c) passed

      weather : weathered c ≡ today setup.climate (state c).past (date c)
      weather = laws.weather setup (state c) (results c) (date c) _ _ _ ok (weathered c) c.today_of-today.ensures passed

pub returns-in_err-day_verdict : goal.returns-in_err-day_verdict
returns-in_err-day_verdict c =
    let s = (goal.at.returns-in_err-day_verdict c).After-day_verdict in
    let why = c.in_err-day_verdict.field-0.0 in
    let same : c.from_residual.result ≡ Err why = search rules in
    record {
      is =
          λ direction cover group ok.
          rw same (refused_answer (setup direction cover group s) (state s) (results s) (date s) why (sym c.in_err-day_verdict.was ∙ told direction cover group s ok));
    }

pub downhill-totals-requires : goal.downhill-totals-requires
downhill-totals-requires c =
    let s = (goal.at.downhill-totals-requires c).After-day_verdict in
    let some = c.requires in
    let ok = some.ready in
    ready (setup some.direction some.cover some.group s) (state s) (results s) (date s) ok.slots₀ ok.ways₀ c.args.slots.now c.args.ways.now
    c.args.order.now (weathered s) (replicate 1536 0) c.day_verdict.new.plots
    (sound some.direction some.cover some.group s ok c.in_ok-day_verdict.was) ok.mapped
    (weather some.direction some.cover some.group s ok c.in_ok-day_verdict.was) c.day_verdict.ensures.0

pub returns : goal.returns
returns c =
    let s = (goal.at.returns c).After-day_verdict in
    let new = c.downhill-totals.new in
    record {
      is =
          λ direction cover group ok.
          accepted_answer (setup direction cover group s) (state s) (results s) (date s) ok.slots₀ ok.ways₀ c.args.slots.now c.args.ways.now
          c.args.order.now (weathered s) (replicate 1536 0) c.day_verdict.new.plots (sound direction cover group s ok c.in_ok-day_verdict.was) ok.mapped
          (weather direction cover group s ok c.in_ok-day_verdict.was) c.day_verdict.ensures.0 (passed direction cover group s ok c.in_ok-day_verdict.was) _ c.after.ensures
          c.downhill-totals.result (slices_of new.soil new.snow new.intercepted new.outflow new.evapotranspired new.recharged new.rejected) c.downhill-totals.ensures;
    }
