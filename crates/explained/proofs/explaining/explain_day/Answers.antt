-- `explaining::explain_day` meets its contract: the reason is asked of the state before the day. Where there is none the refusal is told, and nothing is run; where
-- one is given, the setup has passed its tests, so that its cells are few, and what the day left of the cell are its figures by the rules.
use Rattle.std.proofs.Common.{◌≡◌, sym, ◌∙◌, ℕ, ◌≤◌, arith, length, take, drop, replicate, length-take-le}
use Rattle.paper.specs.Setup.{Setup}
use Rattle.paper.specs.State.{State}
use Rattle.paper.specs.Day.{Outcome}
use Rattle.paper.specs.Reasons.{Explanation}
use Rattle.records.specs.Grids.{setup_of}
use Rattle.records.specs.Past.{state_as}
use Rattle.records.specs.Days.{day_as}
use Rattle.records.specs.Answers.{results_as}
use Rattle.records.proofs.AnswerLaws.{told, told_is}
use Rattle.reasons.specs.Whys.{why_as}
use Rattle.reasons.proofs.WhyLaws.{zeros_room}
use Rattle.explained.specs.Telling.{figures_as}
use Rattle.explained.proofs.DayLaws.{few, given_reason, day_refused, day_told}
use Rattle.std.proofs.Common.{Continue, Break, rules}
use Rattle.explained.proofs.explaining.explain_day.Goals.{After-tell_reason}
use Rattle.explained.proofs.explaining.explain_day.Goals as goal

-- what was handed over, as the paper's, and what the library answers
module _ (c : goal.After-tell_reason) where
  abbrev setup : Setup
  setup =
      setup_of c.args.setup.now

  abbrev state : State
  state = state_as c.args.soil.now c.args.snow.now c.args.past.now

  abbrev answer : Explanation
  answer = why_as c.why-why.result

  -- where a reason is given, the cells are few
  cells_few : {next : ℕ} → c.tell_reason.result ≡ Continue next → length c.args.setup.now.direction.now ≤ 4096
  cells_few is =
      few setup state (day_as c.args.day) c.args.cell
      (given_reason setup state (day_as c.args.day) c.args.cell answer c.why-why.ensures c.args.buffer.now c.tell_reason.new.buffer
      c.tell_reason.result c.tell_reason.ensures _ is)

-- a part of an array of zeros has its own length
sized : (n : ℕ) → n ≤ 4096 → n ≡ length (take n (replicate {A = ℕ} 4096 0))
sized n h = sym (length-take-le n (replicate 4096 0) (zeros_room n h))

pub returns-in_err-next : goal.returns-in_err-next
returns-in_err-next c =
    let w = (goal.at.returns-in_err-next c).After-tell_reason in
    let same : c.from_residual.result ≡ Break c.in_err-next.field-0.0 = search rules in
    rw same
    (rw c.in_err-next.was at
    (day_refused (setup w) (state w) (day_as c.args.day) c.args.cell (answer w) c.why-why.ensures c.args.buffer.now c.tell_reason.new.buffer
    c.tell_reason.result c.tell_reason.ensures _ c.in_err-next.was))

pub slice_bounds-intercepted-end : goal.slice_bounds-intercepted-end
slice_bounds-intercepted-end c = cells_few (goal.at.slice_bounds-intercepted-end c).After-tell_reason c.in_ok-next.was

pub slice_bounds-day-end : goal.slice_bounds-day-end
slice_bounds-day-end c = sized _ (cells_few (goal.at.slice_bounds-day-end c).After-tell_reason c.in_ok-next.was)

pub slice_bounds-outflow-end : goal.slice_bounds-outflow-end
slice_bounds-outflow-end c = cells_few (goal.at.slice_bounds-outflow-end c).After-tell_reason c.in_ok-next.was

pub slice_bounds-day-end-2 : goal.slice_bounds-day-end-2
slice_bounds-day-end-2 c = sized _ (cells_few (goal.at.slice_bounds-day-end-2 c).After-tell_reason c.in_ok-next.was)

pub slice_bounds-evapotranspired-end : goal.slice_bounds-evapotranspired-end
slice_bounds-evapotranspired-end c = cells_few (goal.at.slice_bounds-evapotranspired-end c).After-tell_reason c.in_ok-next.was

pub slice_bounds-day-end-3 : goal.slice_bounds-day-end-3
slice_bounds-day-end-3 c = sized _ (cells_few (goal.at.slice_bounds-day-end-3 c).After-tell_reason c.in_ok-next.was)

pub slice_bounds-recharged-end : goal.slice_bounds-recharged-end
slice_bounds-recharged-end c = cells_few (goal.at.slice_bounds-recharged-end c).After-tell_reason c.in_ok-next.was

pub slice_bounds-day-end-4 : goal.slice_bounds-day-end-4
slice_bounds-day-end-4 c = sized _ (cells_few (goal.at.slice_bounds-day-end-4 c).After-tell_reason c.in_ok-next.was)

pub slice_bounds-rejected-end : goal.slice_bounds-rejected-end
slice_bounds-rejected-end c = cells_few (goal.at.slice_bounds-rejected-end c).After-tell_reason c.in_ok-next.was

pub slice_bounds-day-end-5 : goal.slice_bounds-day-end-5
slice_bounds-day-end-5 c = sized _ (cells_few (goal.at.slice_bounds-day-end-5 c).After-tell_reason c.in_ok-next.was)

pub returns : goal.returns
returns c =
    let w = (goal.at.returns c).After-tell_reason in
    let rest = drop (length c.args.setup.now.direction.now) (replicate {A = ℕ} 4096 0) in
    let new = c.day.new in
    let left : Outcome = told c.day.result new.soil new.snow new.past
    (results_as new.intercepted new.outflow new.evapotranspired new.recharged new.rejected) in
    day_told (setup w) (state w) (day_as c.args.day) c.args.cell (answer w) c.why-why.ensures c.args.buffer.now c.tell_reason.new.buffer
    c.tell_reason.result c.tell_reason.ensures _ c.in_ok-next.was
    left (told_is _ _ _ _ _ ∙ c.day.ensures) rest rest rest rest rest (figures_as c.figures_at-figures.result) c.figures_at-figures.ensures
    c.figures_line.new.buffer c.figures_line.result (omega arith) c.figures_line.ensures
