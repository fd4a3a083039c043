-- `writing::pair` meets its contract: one item after another.
use Rattle.std.proofs.Common.{arith}
use Rattle.lines.proofs.WritingLaws.{wrote_item, item_then}
use Rattle.lines.proofs.writing.pair.Goals as goal

pub returns : goal.returns
returns c = item_then (omega arith) _ _ _
    (wrote_item _ _ (omega arith) c.put_item-next.ensures)
    (wrote_item _ _ (omega arith) c.put_item.ensures)
