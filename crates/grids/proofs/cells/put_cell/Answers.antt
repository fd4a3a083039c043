-- `cells::put_cell` meets its contract: the number, then the blank.
use Rattle.std.proofs.Common.{arith}
use Rattle.grids.proofs.FormLaws.{cell_wrote}
use Rattle.grids.proofs.cells.put_cell.Goals as goal

pub returns : goal.returns
returns c =
    cell_wrote _ _ c.ranges.cell (omega arith) c.put_whole-end.ensures c.put_byte.ensures
