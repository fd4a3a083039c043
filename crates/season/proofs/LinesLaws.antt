-- What is written of a period's days, line after line, and the last line after them: parts put one after another are put together.
use mathlib.Core.List.{List}
use mathlib.Core.Path.{◌≡◌, ap}
use Prim.Native.Nat.{ℕ, ◌+◌, ◌≤◌}
use native.Mathlib.Numerals.{add-one}
use native.Mathlib.Omega.{arith}
use lib.IntN.{ℤ}
use lib.ListN.{length}
use Rattle.paper.specs.State.{Day}
use Rattle.paper.specs.Day.{Totals}
use Rattle.words.specs.Writing.{farthest, Put, Wrote}
use Rattle.words.proofs.WritingLaws.{put_none, put_then, put_as}
use Rattle.daybook.specs.Days.{day_in}
use Rattle.daybook.specs.Totals.{totals_in}
use Rattle.lines.specs.Lines.{day_line, end_line}
use Rattle.lines.specs.Writing.{most_line, most_end}
use Rattle.season.specs.Lines.{day_lines, day_count, lines_of}

module _ (days : List ℤ) (totals : List ℕ) where
  pub days_none : (l : List ℕ) → Put 0 (day_lines days totals 0) l l 0
  unfolding day_lines
  days_none l = put_none 0 l (omega arith)

  pub days_more :
      {mid r : ℕ} {l l₁ l₂ : List ℕ} (k : ℕ) (day : Day) (ts : Totals) → length l ≤ farthest → day ≡ day_in days k → ts ≡ totals_in totals k
      → Put 0 (day_lines days totals k) l l₁ mid → Wrote most_line mid (day_line day.serial ts) l₁ l₂ r
      → Put 0 (day_lines days totals (k + 1)) l l₂ r
  unfolding day_lines
  days_more k day ts long is are w v =
      rw (add-one k) (put_then long w (put_as _ v.put (λ t. day_line (is t).serial (are t))))

  pub lines_ended :
      {mid r : ℕ} {l l₁ l₂ : List ℕ} (count n : ℕ) → length l ≤ farthest → count ≡ day_count days totals → n ≡ count
      → Put 0 (day_lines days totals count) l l₁ mid → Wrote most_end mid (end_line n) l₁ l₂ r
      → Put 0 (lines_of days totals) l l₂ r
  unfolding lines_of
  lines_ended count n long is told w v =
      rw (← is) (put_then long w (put_as _ v.put (ap end_line told)))
