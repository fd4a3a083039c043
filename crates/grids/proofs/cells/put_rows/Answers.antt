-- `cells::put_rows` meets its contract: what is written so far and what is left are all the rows.
use Rattle.std.proofs.Common.{arith}
use Rattle.grids.proofs.FormLaws.{laid_next, laid_all}
use Rattle.grids.proofs.cells.put_rows.Goals as goal

pub loop-cell-preserved : goal.loop-cell-preserved
loop-cell-preserved g c =
    laid_next _ _ _ _ _ _ _ _ _ _ c.loop-cell.invariant c.cell-item.result _ _ _ _ (omega arith) c.loop-cell-test.true c.blank_after.ensures c.done_after-done.ensures
    (rw c.cell-item.is at c.put-next.ensures)

pub returns : goal.returns
returns g c = laid_all _ _ _ _ _ _ _ _ _ _ c.loop-cell.invariant c.loop-cell-test.false
