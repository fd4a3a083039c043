-- `writing::put_no_data` meets its contract: the name, then the number with its sign.
use Rattle.std.proofs.Common.{arith}
use Rattle.grids.proofs.FormLaws.{whole_line}
use Rattle.grids.proofs.writing.put_no_data.Goals as goal

pub returns : goal.returns
returns c =
    whole_line _ _ c.ranges.whole (omega arith) c.put_name-value.ensures c.put_cell.ensures
