-- `periods::run` meets its contract: the loop's invariant is the period underway; each day finds in the lent parts of the five arrays the results that the day
-- before left.
use Rattle.std.proofs.Common.{List, ◌≡◌, refl, sym, ap, ◌∙◌, subst, ℕ, ◌≤◌, arith, length, length-take-le}
use Rattle.paper.specs.Setup.{Setup, cells}
use Rattle.paper.specs.State.{State}
use Rattle.paper.specs.Day.{Results, Outcome}
use Rattle.paper.specs.Period.{fresh_run, outcome_on}
use Rattle.paper.proofs.PeriodLaws.{few_days}
use Rattle.records.specs.Grids.{setup_of}
use Rattle.records.specs.Past.{state_as}
use Rattle.records.specs.Days.{day_as}
use Rattle.records.specs.declared.verdicts.Refusal.{Refusal}
use Rattle.records.specs.declared.answers.Totals.{Totals}
use Rattle.records.proofs.VerdictLaws.{refused_not}
use Rattle.std.specs.Prelude.{Result, Ok, Err}
use Rattle.records.specs.Answers.{totals_as, results_as, outcome_as}
use Rattle.records.proofs.FrontLaws.{parts, Room, after, left}
use Rattle.survey.proofs.MapLaws.{sound_setup, waters_each}
use Rattle.daybook.specs.Days.{day_in}
use Rattle.recharge.specs.Period.{DayAdded}
use Rattle.recharge.proofs.PeriodLaws.{fresh_soils, fresh_snows, underway_first, each, outcome_is, addable, underway_next, refused_ends, all_ended}
use Rattle.recharge.proofs.SurveyedLaws.{surveyed_ready}
use Rattle.recharge.proofs.periods.run.Goals.{Start, After-surveyed_day-answer}
use Rattle.recharge.proofs.periods.run.Goals as goal

abbrev setup : goal.Start → Setup
setup c =
    setup_of c.args.setup.now

-- the width of the grid's lists, which are as long as the setup's
wet : (c : goal.Start) → length c.args.setup.now.available.now ≡ cells (setup c)
wet c = waters_each (setup c) c.requires.passed

few : (c : goal.Start) → cells (setup c) ≤ 4096
few c = (sound_setup (setup c) c.requires.passed).charted.few

-- a day: what it found, and what it left, which are the stores, the results, and the arrays with those results at their fronts
module _ (c : goal.After-surveyed_day-answer) where
  abbrev s : Setup
  s =
      setup_of c.args.setup.now

  abbrev n : ℕ
  n = length c.args.setup.now.available.now

  abbrev state : State
  state = state_as c.loop-k.soil c.loop-k.snow c.loop-k.past

  abbrev state' : State
  state' = state_as c.surveyed_day-answer.new.soil c.surveyed_day-answer.new.snow c.surveyed_day-answer.new.past

  abbrev part : Results
  part =
      let new = c.surveyed_day-answer.new in
      results_as new.intercepted new.outflow new.evapotranspired new.recharged new.rejected

  abbrev out : Outcome
  out = outcome_as c.surveyed_day-answer.result c.surveyed_day-answer.new.soil c.surveyed_day-answer.new.snow c.surveyed_day-answer.new.past part

  abbrev arrays : Results
  arrays =
      let l = c.loop-k in
      results_as (after n l.intercepted part.intercepted) (after n l.outflow part.outflow)
      (after n l.evapotranspired part.evapotranspired) (after n l.recharged part.recharged)
      (after n l.rejected part.rejected)

  held : Room n arrays.intercepted arrays.outflow arrays.evapotranspired arrays.recharged arrays.rejected
      × (parts n arrays.intercepted arrays.outflow arrays.evapotranspired arrays.recharged arrays.rejected ≡ part)
  held =
      let kept = c.surveyed_day-answer.auto in
      let l = c.loop-k in
      left n l.intercepted l.outflow l.evapotranspired l.recharged l.rejected
      part.intercepted part.outflow part.evapotranspired part.recharged part.rejected
      l.invariant.room kept.intercepted kept.outflow kept.evapotranspired kept.recharged kept.rejected

  full : n ≡ cells s
  full = waters_each s c.requires.passed

  -- the day is the run's, and so is its outcome
  on : out ≡ outcome_on s (fresh_run s) (day_in c.args.days.now) c.loop-k.k
  on =
      let l = c.loop-k in
      outcome_is s c.args.days.now c.args.totals.now state _ _ _ _ _ _ _ l.k l.invariant full
      (day_as c.day_at-day.result) c.day_at-day.ensures out
      (c.surveyed_day-answer.ensures.is c.args.setup.now.direction.now c.args.setup.now.cover.now c.args.setup.now.group.now
      (surveyed_ready s state _ c.requires.passed (c.survey.ensures.mapped c.requires.passed)
      (each s c.args.days.now c.args.totals.now state _ _ _ _ _ _ _ l.k l.invariant full)))

  -- what was added is what the day left
  subst_results : {sums sums' : List ℕ}
      → DayAdded n (parts n arrays.intercepted arrays.outflow arrays.evapotranspired arrays.recharged arrays.rejected) sums sums'
      → DayAdded n part sums sums'
  subst_results {sums} {sums'} a = subst (λ (r : Results). DayAdded n r sums sums') held.1 a

pub loop-k-init : goal.loop-k-init
loop-k-init c =
    let c₀ = (goal.at.loop-k-init c).Start in
    underway_first (setup c₀) c.args.days.now (state_as c.args.soil.now c.args.snow.now c.args.past) c.args.sums.now c.args.totals.now
    c.requires (wet c₀) (few c₀) _ c.clear.ensures

pub slice_bounds-intercepted-end : goal.slice_bounds-intercepted-end
slice_bounds-intercepted-end c = c.loop-k.invariant.room.intercepted

pub slice_bounds-surveyed_day-end : goal.slice_bounds-surveyed_day-end
slice_bounds-surveyed_day-end c = sym (length-take-le _ _ c.loop-k.invariant.room.intercepted)

pub slice_bounds-outflow-end : goal.slice_bounds-outflow-end
slice_bounds-outflow-end c = c.loop-k.invariant.room.outflow

pub slice_bounds-surveyed_day-end-in-loop-k : goal.slice_bounds-surveyed_day-end-in-loop-k
slice_bounds-surveyed_day-end-in-loop-k c = sym (length-take-le _ _ c.loop-k.invariant.room.outflow)

pub slice_bounds-evapotranspired-end : goal.slice_bounds-evapotranspired-end
slice_bounds-evapotranspired-end c = c.loop-k.invariant.room.evapotranspired

pub slice_bounds-surveyed_day-end-in-loop-k-2 : goal.slice_bounds-surveyed_day-end-in-loop-k-2
slice_bounds-surveyed_day-end-in-loop-k-2 c = sym (length-take-le _ _ c.loop-k.invariant.room.evapotranspired)

pub slice_bounds-recharged-end : goal.slice_bounds-recharged-end
slice_bounds-recharged-end c = c.loop-k.invariant.room.recharged

pub slice_bounds-surveyed_day-end-in-loop-k-3 : goal.slice_bounds-surveyed_day-end-in-loop-k-3
slice_bounds-surveyed_day-end-in-loop-k-3 c = sym (length-take-le _ _ c.loop-k.invariant.room.recharged)

pub slice_bounds-rejected-end : goal.slice_bounds-rejected-end
slice_bounds-rejected-end c = c.loop-k.invariant.room.rejected

pub slice_bounds-surveyed_day-end-in-loop-k-4 : goal.slice_bounds-surveyed_day-end-in-loop-k-4
slice_bounds-surveyed_day-end-in-loop-k-4 c = sym (length-take-le _ _ c.loop-k.invariant.room.rejected)

pub surveyed_day-answer-requires : goal.surveyed_day-answer-requires
surveyed_day-answer-requires c =
    let c₀ = (goal.at.surveyed_day-answer-requires c).Start in
    let l = c.loop-k in
    record {
      direction = c.args.setup.now.direction.now;
      cover = c.args.setup.now.cover.now;
      group = c.args.setup.now.group.now;
      ready =
          surveyed_ready (setup c₀) (state_as l.soil l.snow l.past) _ c.requires.passed (c.survey.ensures.mapped c.requires.passed)
          (each (setup c₀) c.args.days.now c.args.totals.now (state_as l.soil l.snow l.past) _ _ _ _ _ _ _ l.k l.invariant (wet c₀));
    }

-- the stores and the lists are as long as they were
pub shape_of-soil-in-Err : goal.shape_of-soil-in-Err
shape_of-soil-in-Err c = c.surveyed_day-answer.auto.soil ∙ c.loop-k.invariant.soils ∙ sym (fresh_soils _ _ _ _ _ c.requires)

pub shape_of-snow-in-Err : goal.shape_of-snow-in-Err
shape_of-snow-in-Err c = c.surveyed_day-answer.auto.snow ∙ c.loop-k.invariant.snows ∙ sym (fresh_snows _ _ _ _ _ c.requires)

pub shape_of-sums-in-Err : goal.shape_of-sums-in-Err
shape_of-sums-in-Err c = c.loop-k.invariant.sums_are.sized ∙ sym c.requires.sized

pub shape_of-totals-in-Err : goal.shape_of-totals-in-Err
shape_of-totals-in-Err c = c.loop-k.invariant.totals_sized ∙ sym c.requires.room

pub returns-in-Err : goal.returns-in-Err
returns-in-Err c =
    let day = (goal.at.returns-in-Err c).After-surveyed_day-answer in
    refused_ends (s day) c.args.days.now c.args.totals.now (state day) _ _ _ _ _ _ _ c.loop-k.k c.loop-k.invariant (full day) (out day) (on day)
    (Err c.in-Err.why) (ap (λ (r : Result Totals Refusal). (told r).verdict) c.in-Err.is) (refused_not _ c.in-Err.why refl) c.loop-k-test.true _ _ _
    (ap (λ (r : Result Totals Refusal). (told r).state) (sym c.in-Err.is))
  where
    told : Result Totals Refusal → Outcome
    told r = let new = c.surveyed_day-answer.new in outcome_as r new.soil new.snow new.past (part (goal.at.returns-in-Err c).After-surveyed_day-answer)

pub slice_bounds-intercepted-end-in-loop-k : goal.slice_bounds-intercepted-end-in-loop-k
slice_bounds-intercepted-end-in-loop-k c = (held (goal.at.slice_bounds-intercepted-end-in-loop-k c).After-surveyed_day-answer).0.intercepted

pub slice_bounds-add_day-end : goal.slice_bounds-add_day-end
slice_bounds-add_day-end c = sym (length-take-le _ _ (held (goal.at.slice_bounds-add_day-end c).After-surveyed_day-answer).0.intercepted)

pub slice_bounds-outflow-end-in-loop-k : goal.slice_bounds-outflow-end-in-loop-k
slice_bounds-outflow-end-in-loop-k c = (held (goal.at.slice_bounds-outflow-end-in-loop-k c).After-surveyed_day-answer).0.outflow

pub slice_bounds-add_day-end-in-loop-k : goal.slice_bounds-add_day-end-in-loop-k
slice_bounds-add_day-end-in-loop-k c = sym (length-take-le _ _ (held (goal.at.slice_bounds-add_day-end-in-loop-k c).After-surveyed_day-answer).0.outflow)

pub slice_bounds-evapotranspired-end-in-loop-k : goal.slice_bounds-evapotranspired-end-in-loop-k
slice_bounds-evapotranspired-end-in-loop-k c = (held (goal.at.slice_bounds-evapotranspired-end-in-loop-k c).After-surveyed_day-answer).0.evapotranspired

pub slice_bounds-add_day-end-in-loop-k-2 : goal.slice_bounds-add_day-end-in-loop-k-2
slice_bounds-add_day-end-in-loop-k-2 c = sym (length-take-le _ _ (held (goal.at.slice_bounds-add_day-end-in-loop-k-2 c).After-surveyed_day-answer).0.evapotranspired)

pub slice_bounds-recharged-end-in-loop-k : goal.slice_bounds-recharged-end-in-loop-k
slice_bounds-recharged-end-in-loop-k c = (held (goal.at.slice_bounds-recharged-end-in-loop-k c).After-surveyed_day-answer).0.recharged

pub slice_bounds-add_day-end-in-loop-k-3 : goal.slice_bounds-add_day-end-in-loop-k-3
slice_bounds-add_day-end-in-loop-k-3 c = sym (length-take-le _ _ (held (goal.at.slice_bounds-add_day-end-in-loop-k-3 c).After-surveyed_day-answer).0.recharged)

pub slice_bounds-rejected-end-in-loop-k : goal.slice_bounds-rejected-end-in-loop-k
slice_bounds-rejected-end-in-loop-k c = (held (goal.at.slice_bounds-rejected-end-in-loop-k c).After-surveyed_day-answer).0.rejected

pub slice_bounds-add_day-end-in-loop-k-4 : goal.slice_bounds-add_day-end-in-loop-k-4
slice_bounds-add_day-end-in-loop-k-4 c = sym (length-take-le _ _ (held (goal.at.slice_bounds-add_day-end-in-loop-k-4 c).After-surveyed_day-answer).0.rejected)

pub add_day-requires : goal.add_day-requires
add_day-requires c =
    let day = (goal.at.add_day-requires c).After-surveyed_day-answer in
    let room = (held day).0 in
    addable (s day) c.args.days.now c.args.totals.now (state day) _ _ _ _ _ _ _ c.loop-k.k c.loop-k.invariant (full day) _
    (few (goal.at.add_day-requires c).Start)
    (length-take-le _ _ room.intercepted) (length-take-le _ _ room.outflow) (length-take-le _ _ room.evapotranspired) (length-take-le _ _ room.recharged)
    (length-take-le _ _ room.rejected)

pub loop-k-preserved : goal.loop-k-preserved
loop-k-preserved c =
    let day = (goal.at.loop-k-preserved c).After-surveyed_day-answer in
    let kept = c.surveyed_day-answer.auto in
    let l = c.loop-k in
    underway_next (s day) c.args.days.now c.args.totals.now (state day) _ _ _ _ _ _ _ l.k l.invariant (full day) (out day) (on day)
    (ap (λ (r : Result Totals Refusal). (told r).verdict) c.in-Ok.is) c.loop-k-test.true
    (part day) (ap (λ (r : Result Totals Refusal). (told r).results) (sym c.in-Ok.is))
    (state' day) (ap (λ (r : Result Totals Refusal). (told r).state) (sym c.in-Ok.is)) (kept.soil ∙ l.invariant.soils) (kept.snow ∙ l.invariant.snows)
    _ (subst_results day c.add_day.ensures) _ (totals_as c.in-Ok.totals) (ap (λ (r : Result Totals Refusal). (told r).totals) (sym c.in-Ok.is)) c.put_totals.ensures
    _ _ _ _ _ (held day).0 (held day).1
  where
    told : Result Totals Refusal → Outcome
    told r = let new = c.surveyed_day-answer.new in outcome_as r new.soil new.snow new.past (part (goal.at.loop-k-preserved c).After-surveyed_day-answer)

pub shape_of-soil : goal.shape_of-soil
shape_of-soil c = c.loop-k.invariant.soils ∙ sym (fresh_soils _ _ _ _ _ c.requires)

pub shape_of-snow : goal.shape_of-snow
shape_of-snow c = c.loop-k.invariant.snows ∙ sym (fresh_snows _ _ _ _ _ c.requires)

pub shape_of-sums : goal.shape_of-sums
shape_of-sums c = c.loop-k.invariant.sums_are.sized ∙ sym c.requires.sized

pub shape_of-totals : goal.shape_of-totals
shape_of-totals c = c.loop-k.invariant.totals_sized ∙ sym c.requires.room

pub returns : goal.returns
returns c =
    let c₀ = (goal.at.returns c).Start in
    let l = c.loop-k in
    all_ended (setup c₀) c.args.days.now c.args.totals.now (state_as l.soil l.snow l.past) _ _ _ _ _ _ _ l.k l.invariant (wet c₀) c.loop-k-test.false _ _ _ refl
