-- `calls::recharge_day` meets its contract: the library is handed the lent past and day as the paper reads them, its answer is the paper's, and it is
-- written as C's numbers. The memory's figures fit 32 bits, since they are the lent ones and today's; the frost index too, since it is the lent one
-- or within its limit.
use Rattle.paper.specs.Setup.{Setup}
use Rattle.paper.specs.State.{State, Day}
use Rattle.std.proofs.Common.{◌≡◌, refl, ◌∙◌}
use Rattle.paper.specs.Day.{Results, Outcome, day_of}
use Rattle.records.specs.Grids.{setup_of}
use Rattle.records.specs.Past.{past_as, state_as}
use Rattle.records.specs.Days.{day_as}
use Rattle.records.proofs.AnswerLaws.{told, told_is}
use Rattle.clib.specs.Given.{setup_from, day_from}
use Rattle.clib.specs.Narrow.{Narrow}
use Rattle.clib.specs.Numbers.{totals_list}
use Rattle.clib.specs.Handed.{Stores, stores_from, results_from}
use Rattle.clib.proofs.HandedLaws.{told_near, none_returned, day_placed, day_narrow, day_handed}
use Rattle.clib.proofs.calls.recharge_day.Goals.{After-day-answer}
use Rattle.clib.proofs.calls.recharge_day.Goals as goal

-- what was lent, what the library was handed, and what it answered
module _ (c : goal.After-day-answer) where
  abbrev the_setup : Setup
  the_setup =
      setup_from c.args.site c.args.covers.now c.args.direction.now c.args.cover.now c.args.group.now c.args.available.now

  abbrev the_stores : Stores
  the_stores = stores_from c.args.soil.now c.args.snow.now c.args.memory.now c.args.last_serial.now c.args.frost_index.now

  abbrev the_results : Results
  the_results =
      results_from c.args.intercepted.now c.args.outflow.now c.args.evapotranspired.now c.args.recharged.now c.args.rejected.now

  abbrev handed_setup : Setup
  handed_setup =
      setup_of c.setup_given-setup.result

  abbrev handed_state : State
  handed_state = state_as c.args.soil.now c.args.snow.now c.past_from-past.result

  abbrev handed_day : Day
  handed_day = day_as c.record_of.result

  abbrev answered : Outcome
  answered =
      let new = c.day-answer.new in
      told c.day-answer.result new.soil new.snow new.past
      (results_from new.intercepted new.outflow new.evapotranspired new.recharged new.rejected)

  by_rules : answered ≡ day_of handed_setup handed_state the_results handed_day
  by_rules = told_is _ _ _ _ _ ∙ c.day-answer.ensures

  narrow_past : Narrow answered.state.past
  narrow_past =
      day_narrow handed_setup handed_state the_results handed_day {o = answered} by_rules
      c.past_from-past.ensures.1 c.record_of.ensures.1

pub keep-requires : goal.keep-requires
keep-requires c = narrow_past (goal.at.keep-requires c).After-day-answer

pub returns-in-Ok : goal.returns-in-Ok
returns-in-Ok c =
    let day = (goal.at.returns-in-Ok c).After-day-answer in
    let kept = c.keep.ensures in
    day_handed (the_setup day) (the_stores day) (the_results day) (day_from c.args.day)
    {t = handed_setup day} {p = past_as c.past_from-past.result} {z = handed_day day} {o = answered day} (by_rules day)
    c.setup_given-setup.ensures
    c.record_of.ensures.0 c.past_from-past.ensures.0 (rw c.in-Ok.is none_returned)
    kept.memory_is kept.last_is kept.frost_is (rw c.in-Ok.is c.figures_of.ensures)

pub returns-in-Err : goal.returns-in-Err
unfolding totals_list
returns-in-Err c =
    let day = (goal.at.returns-in-Err c).After-day-answer in
    let kept = c.keep.ensures in
    let near = rw c.in-Err.is at (day_placed (handed_setup day) (handed_state day) (the_results day) (handed_day day) {o = answered day} (by_rules day)) in
    day_handed (the_setup day) (the_stores day) (the_results day) (day_from c.args.day)
    {t = handed_setup day} {p = past_as c.past_from-past.result} {z = handed_day day} {o = answered day} (by_rules day)
    c.setup_given-setup.ensures
    c.record_of.ensures.0 c.past_from-past.ensures.0 (rw c.in-Err.is (c.refused_as.ensures ∙ told_near _ near))
    kept.memory_is kept.last_is kept.frost_is (rw c.in-Err.is refl)
