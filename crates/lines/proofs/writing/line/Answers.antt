-- `writing::line` meets its contract: four pairs one after another are a row of eight numbers.
use Rattle.std.proofs.Common.{arith}
use Rattle.lines.specs.Lines.{day_line}
use Rattle.lines.proofs.WritingLaws.{row_pair, row_two}
use Rattle.lines.proofs.writing.line.Goals as goal

pub returns : goal.returns
unfolding day_line
returns c = row_pair (omega arith) _ _ _ _ (rw c.wide.ensures at c.pair-a.ensures)
    (row_pair (omega arith) _ _ _ _ c.pair-b.ensures
    (row_pair (omega arith) _ _ _ _ c.pair-c.ensures (row_two _ _ c.pair.ensures)))
