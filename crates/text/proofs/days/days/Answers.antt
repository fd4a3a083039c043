-- `days::days` meets its contract. The loop's invariant: the run is underway, so that what stands in the buffer and the text of the days that are
-- left are the whole text; a day finds in the lent parts of the five arrays the results that the day before left.
-- The laws of a run underway are the loop's three ways on.
use Rattle.std.proofs.Common.{◌≡◌, refl, sym, ◌∙◌, ℕ, ◌+◌, ◌≤◌, ◌<◌, arith, length, length-take-le}
use Rattle.paper.specs.Setup.{Setup}
use Rattle.paper.specs.State.{State}
use Rattle.paper.specs.Day.{Results, no_results}
use Rattle.records.specs.Grids.{setup_of}
use Rattle.records.specs.Past.{state_as}
use Rattle.records.specs.Days.{day_as}
use Rattle.records.specs.Answers.{answered, totals_told, results_as}
use Rattle.text.specs.Program.{day_count, day_at}
use Rattle.records.proofs.FrontLaws.{parts, Room, no_results_lem, room, after, left}
use Rattle.records.proofs.AnswerLaws.{told_is}
use Rattle.text.proofs.RunLaws.{underway_first, day_count_lem, this_day, count_few, all_told, told_last, told_more}
use Rattle.text.proofs.days.days.Goals.{After-day-answer, After-day_in-day}
use Rattle.text.proofs.days.days.Goals as goal

-- a day: where the run stood before it, and what it left, which are the stores, the results, and the arrays with those results at their fronts
module _ (c : goal.After-day-answer) where
  abbrev setup : Setup
  setup =
      setup_of c.args.setup.now

  abbrev first : State
  first = state_as c.args.soil.now c.args.snow.now c.args.past

  abbrev cells : ℕ
  cells = length c.args.setup.now.direction.now

  abbrev state : State
  state = state_as c.loop-k.soil c.loop-k.snow c.loop-k.past

  abbrev results : Results
  results = parts cells c.loop-k.intercepted c.loop-k.outflow c.loop-k.evapotranspired c.loop-k.recharged c.loop-k.rejected

  abbrev state' : State
  state' = state_as c.day-answer.new.soil c.day-answer.new.snow c.day-answer.new.past

  abbrev part : Results
  part =
      let new = c.day-answer.new in
      results_as new.intercepted new.outflow new.evapotranspired new.recharged new.rejected

  abbrev arrays : Results
  arrays =
      let l = c.loop-k in
      results_as (after cells l.intercepted part.intercepted) (after cells l.outflow part.outflow)
      (after cells l.evapotranspired part.evapotranspired) (after cells l.recharged part.recharged)
      (after cells l.rejected part.rejected)

  held : Room cells arrays.intercepted arrays.outflow arrays.evapotranspired arrays.recharged arrays.rejected
      × (parts cells arrays.intercepted arrays.outflow arrays.evapotranspired arrays.recharged arrays.rejected ≡ part)
  held =
      let kept = c.day-answer.auto in
      let l = c.loop-k in
      left cells l.intercepted l.outflow l.evapotranspired l.recharged l.rejected
      part.intercepted part.outflow part.evapotranspired part.recharged part.rejected
      l.invariant.room kept.intercepted kept.outflow kept.evapotranspired kept.recharged kept.rejected

pub loop-k-init : goal.loop-k-init
loop-k-init c = let few = c.requires.few in
    record {
      soils = refl;
      snows = refl;
      room = room _ 4096 few;
      underway = underway_first _ _ _ _ _ _ (no_results_lem _ 4096 few);
    }

pub slice_bounds-intercepted-end : goal.slice_bounds-intercepted-end
slice_bounds-intercepted-end c = c.loop-k.invariant.room.intercepted

pub slice_bounds-day-end : goal.slice_bounds-day-end
slice_bounds-day-end c = sym (length-take-le _ _ c.loop-k.invariant.room.intercepted)

pub slice_bounds-outflow-end : goal.slice_bounds-outflow-end
slice_bounds-outflow-end c = c.loop-k.invariant.room.outflow

pub slice_bounds-day-end-in-loop-k : goal.slice_bounds-day-end-in-loop-k
slice_bounds-day-end-in-loop-k c = sym (length-take-le _ _ c.loop-k.invariant.room.outflow)

pub slice_bounds-evapotranspired-end : goal.slice_bounds-evapotranspired-end
slice_bounds-evapotranspired-end c = c.loop-k.invariant.room.evapotranspired

pub slice_bounds-day-end-in-loop-k-2 : goal.slice_bounds-day-end-in-loop-k-2
slice_bounds-day-end-in-loop-k-2 c = sym (length-take-le _ _ c.loop-k.invariant.room.evapotranspired)

pub slice_bounds-recharged-end : goal.slice_bounds-recharged-end
slice_bounds-recharged-end c = c.loop-k.invariant.room.recharged

pub slice_bounds-day-end-in-loop-k-3 : goal.slice_bounds-day-end-in-loop-k-3
slice_bounds-day-end-in-loop-k-3 c = sym (length-take-le _ _ c.loop-k.invariant.room.recharged)

pub slice_bounds-rejected-end : goal.slice_bounds-rejected-end
slice_bounds-rejected-end c = c.loop-k.invariant.room.rejected

pub slice_bounds-day-end-in-loop-k-4 : goal.slice_bounds-day-end-in-loop-k-4
slice_bounds-day-end-in-loop-k-4 c = sym (length-take-le _ _ c.loop-k.invariant.room.rejected)

-- the day is one of the run's
more : (at : goal.After-day_in-day) → at.loop-k.k < day_count at.args.numbers.now
more at = omega (arith, day_count_lem at.args.numbers.now _ at.requires.placed, at.loop-k-test.true)

this : (at : goal.After-day_in-day) → day_as at.day_in-day.result ≡ day_at at.args.numbers.now at.loop-k.k
this at = this_day at.args.numbers.now at.args.layout at.requires.placed (day_as at.day_in-day.result) at.loop-k.k at.requires.coded at.day_in-day.ensures

few : (at : goal.After-day_in-day) → at.loop-k.k < 4681
few at = omega (arith, count_few at.args.numbers.now at.args.layout at.requires.placed at.requires.coded, at.loop-k-test.true)

pub returns-in-Break : goal.returns-in-Break
returns-in-Break c =
    let day = (goal.at.returns-in-Break c).After-day-answer in
    let at = (goal.at.returns-in-Break c).After-day_in-day in
    let l = c.loop-k in
    told_last c.args.numbers.now (setup day) (first day) (no_results (cells day)) c.args.output.now l.output (state day) (results day)
    l.at l.done l.k c.requires.coded l.invariant.underway
    (day_as c.day_in-day.result) (this at) (more at)
    (answered c.day-answer.result) (part day) (totals_told c.day-answer.result) (state' day) _ _ _
    (told_is _ _ _ _ _ ∙ c.day-answer.ensures) c.tell.ensures c.in-Break.is

pub overflow_add-done : goal.overflow_add-done
overflow_add-done c = omega (arith, c.loop-k.invariant.underway.counted, few (goal.at.overflow_add-done c).After-day_in-day)

pub loop-k-preserved : goal.loop-k-preserved
loop-k-preserved c =
    let day = (goal.at.loop-k-preserved c).After-day-answer in
    let at = (goal.at.loop-k-preserved c).After-day_in-day in
    let l = c.loop-k in
    record {
      soils = c.day-answer.auto.soil ∙ l.invariant.soils;
      snows = c.day-answer.auto.snow ∙ l.invariant.snows;
      room = (held day).0;
      underway =
          told_more c.args.numbers.now (setup day) (first day) (no_results (cells day)) c.args.output.now l.output (state day) (results day)
          l.at l.done l.k c.requires.coded l.invariant.underway
          (day_as c.day_in-day.result) (this at) (more at)
          (answered c.day-answer.result) (part day) _ (totals_told c.day-answer.result) (state' day) _ _ _
          (held day).1 (told_is _ _ _ _ _ ∙ c.day-answer.ensures) c.tell.ensures c.in-Continue.is;
    }

pub shape_of-soil : goal.shape_of-soil
shape_of-soil c = c.loop-k.invariant.soils

pub shape_of-snow : goal.shape_of-snow
shape_of-snow c = c.loop-k.invariant.snows

pub returns : goal.returns
returns c = let ns = c.args.numbers.now in
    let count = day_count_lem ns _ c.requires.placed in
    all_told ns _ _ _ _ _ _ _ _ _ _ c.requires.coded c.loop-k.invariant.underway _ _
    (omega (arith, count, c.loop-k-test.false)) (omega (arith, count, c.loop-k.auto.k-end)) c.ended.ensures
