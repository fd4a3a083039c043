-- The lines that `balance` prints for a period's days.
use Rattle.std.specs.Prelude.{List, [], ◌++◌, ℕ, zero, suc, ◌/◌, min, ℤ, length}
use Rattle.daybook.specs.Days.{day_in}
use Rattle.daybook.specs.Totals.{totals_in}
use Rattle.lines.specs.Lines.{day_line, end_line}

-- those of the first days, so many
unfoldable pub day_lines : List ℤ → List ℕ → ℕ → List ℕ
day_lines days totals zero = []
day_lines days totals (suc k) = day_lines days totals k ++ day_line (day_in days k).serial (totals_in totals k)

-- as many as both lists have
abbrev pub day_count : List ℤ → List ℕ → ℕ
day_count days totals = min (length days / 7) (length totals / 7)

unfoldable pub lines_of : List ℤ → List ℕ → List ℕ
lines_of days totals = day_lines days totals (day_count days totals) ++ end_line (day_count days totals)
