-- What a day prints, and whether the run goes on.
use Rattle.std.specs.Prelude.{List, ◌≡◌, ℕ, ◌≤◌, get_or}
use Rattle.paper.specs.CellDay as paper
use Rattle.paper.specs.Day.{next_state, figures_of}
use Rattle.paper.specs.Reasons.{Explanation, because, by_refusal, why_of}
use Rattle.paper.specs.Setup.{Setup}
use Rattle.paper.specs.State.{State, Day}
use Rattle.lines.specs.Lines.{refusal}
use Rattle.words.specs.Writing.{Wrote}
use Rattle.std.specs.declared.ops.ControlFlow.{ControlFlow}
use Rattle.std.specs.declared.ops.ControlFlow.TheVariants.{Continue, Break}
use Rattle.explained.specs.Lines.{reason_line, why_lines, most_reason_line, most_lines}
use Rattle.explained.specs.declared.day_lines.Figures.{Figures}

-- a cell's figures as the paper's
abbrev pub figures_as : Figures → paper.Figures
figures_as f =
    record {
      intercepted = f.intercepted;
      outflow = f.outflow;
      evapotranspired = f.evapotranspired;
      recharged = f.recharged;
      rejected = f.rejected;
      soil = f.soil;
      snow = f.snow;
    }

-- a refusal ends the run
unfoldable pub told_in : Explanation → ℕ → ControlFlow ℕ ℕ
told_in (because reason a b) next = Continue next
told_in (by_refusal why) next = Break next

-- the reason's line alone, or the refusal
unfoldable pub reason_or_refusal : ℕ → Explanation → List ℕ
reason_or_refusal serial (because reason a b) = reason_line serial reason a b
reason_or_refusal serial (by_refusal why) = refusal why

pub record TellsReason (serial : ℕ) (e : Explanation) (before after : List ℕ) (r : ControlFlow ℕ ℕ) : Type 0 where
  pub next : ℕ
  pub result : r ≡ told_in e next
  pub line : Wrote most_reason_line 0 (reason_or_refusal serial e) before after next

-- both lines, or the refusal, from the buffer's front on
pub record Tells (serial : ℕ) (e : Explanation) (figures : paper.Figures) (before after : List ℕ) (r : ControlFlow ℕ ℕ) : Type 0 where
  pub next : ℕ
  pub result : r ≡ told_in e next
  pub lines : Wrote most_lines 0 (why_lines serial e figures) before after next

-- what was told lies within so many bytes
abbrev pub Inside : ControlFlow ℕ ℕ → ℕ → Type 0
Inside (Continue next) long = next ≤ long
Inside (Break next) long = next ≤ long

-- what seven lists hold of a cell
unfoldable pub figures_by : List ℕ → List ℕ → List ℕ → List ℕ → List ℕ → List ℕ → List ℕ → ℕ → paper.Figures
figures_by intercepted outflow evapotranspired recharged rejected soil snow i =
    record {
      intercepted = get_or intercepted i 0;
      outflow = get_or outflow i 0;
      evapotranspired = get_or evapotranspired i 0;
      recharged = get_or recharged i 0;
      rejected = get_or rejected i 0;
      soil = get_or soil i 0;
      snow = get_or snow i 0;
    }

-- the state at the day's end; a day that is refused changes nothing
unfoldable pub state_after : Setup → State → Day → Explanation → State
state_after s st d (because reason a b) = next_state s st d (figures_of s st d)
state_after s st d (by_refusal why) = st

-- a day of a setup from a state on: the lines say why the cell got its figures by the rules, and the figures
pub record DayTold (s : Setup) (st : State) (d : Day) (cell : ℕ) (st' : State) (before after : List ℕ) (r : ControlFlow ℕ ℕ) : Type 0 where
  pub lines : Tells d.serial (why_of s st d cell) (figures_of s st d cell) before after r
  pub state : st' ≡ state_after s st d (why_of s st d cell)
