-- `cells::put_depth` meets its contract: the inches, then the blank.
use Rattle.std.proofs.Common.{arith}
use Rattle.grids.proofs.FormLaws.{byte_after}
use Rattle.grids.proofs.cells.put_depth.Goals as goal

pub returns : goal.returns
returns c = byte_after _ (omega arith) c.put_inches-end.ensures c.put_byte.ensures
