-- `texts::put_text` meets its contract: its parts, one after another.
use Rattle.std.proofs.Common.{arith}
use Rattle.desk.proofs.TextLaws.{text_put}
use Rattle.desk.proofs.texts.put_text.Goals as goal

pub returns : goal.returns
returns c =
    text_put _ _ _ _ (omega arith)
    (rw c.wide.ensures at c.put_item-columns.ensures)
    (rw c.wide-2.ensures at c.put_item-size.ensures)
    c.put_bytes-table.ensures
    c.put_byte-from.ensures
    (rw c.cells.ensures at c.put_lines-end.ensures)
    c.put_bytes.ensures
