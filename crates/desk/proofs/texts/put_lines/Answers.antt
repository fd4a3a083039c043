-- `texts::put_lines` meets its contract: as many lines are put as the loop has passed.
use Rattle.std.proofs.Common.{arith}
use Rattle.desk.proofs.TextLaws.{lines_none, lines_more}
use Rattle.desk.proofs.texts.put_lines.Goals as goal

pub loop-cell-init : goal.loop-cell-init
loop-cell-init c = lines_none _ _ _ (omega arith)

pub loop-cell-preserved : goal.loop-cell-preserved
loop-cell-preserved c = lines_more _ c.loop-cell.cell (omega arith) c.loop-cell.invariant c.put_line-next.ensures
