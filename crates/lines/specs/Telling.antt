-- What a day prints.
use Rattle.std.specs.Prelude.{List, ◌≡◌, ℕ}
use Rattle.paper.specs.Day as paper
use Rattle.paper.specs.Refusals.{Verdict, accepted, refused}
use Rattle.lines.specs.Lines.{day_line, refusal}
use Rattle.words.specs.Writing.{Wrote}
use Rattle.lines.specs.Writing.{most_line}
use Rattle.std.specs.declared.ops.ControlFlow.{ControlFlow}
use Rattle.std.specs.declared.ops.ControlFlow.TheVariants.{Continue, Break}

-- its line, or its refusal, which ends the run
unfoldable pub line_of : ℕ → paper.Totals → Verdict → List ℕ
line_of serial totals accepted = day_line serial totals
line_of serial totals (refused why) = refusal why

unfoldable pub told_in : Verdict → ℕ → ControlFlow ℕ ℕ
told_in accepted next = Continue next
told_in (refused why) next = Break next

pub record Tells (at serial : ℕ) (totals : paper.Totals) (verdict : Verdict) (before after : List ℕ) (r : ControlFlow ℕ ℕ) : Type 0 where
  pub next : ℕ
  pub result : r ≡ told_in verdict next
  pub line : Wrote most_line at (line_of serial totals verdict) before after next
