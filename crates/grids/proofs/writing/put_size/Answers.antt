-- `writing::put_size` meets its contract: the name, then the number.
use Rattle.std.proofs.Common.{arith}
use Rattle.grids.proofs.FormLaws.{size_line}
use Rattle.grids.proofs.writing.put_size.Goals as goal

pub returns : goal.returns
returns c =
    size_line _ c.args.size (omega arith) (omega arith) c.wide.ensures c.put_name-value.ensures c.put_item.ensures
