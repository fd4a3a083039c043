-- `writing::refused` meets its contract: a word, a number, a word and a row of one number, one after another.
use Rattle.std.proofs.Common.{arith}
use Rattle.words.specs.Digits.{bytes}
use Rattle.lines.specs.Lines.{refused_line}
use Rattle.words.proofs.WritingLaws.{wrote_bytes, wrote_then}
use Rattle.lines.proofs.WritingLaws.{wrote_item, item_then, row_last}
use Rattle.lines.proofs.writing.refused.Goals as goal

pub returns : goal.returns
unfolding refused_line bytes
returns c = wrote_then (omega arith) (wrote_bytes c.put_bytes-a.ensures)
    (item_then (omega arith) _ _ _ (wrote_item _ _ (omega arith) c.put_item-b.ensures)
    (wrote_then (omega arith) (wrote_bytes c.put_bytes-c.ensures)
    (row_last _ (wrote_item _ _ (omega arith) c.put_item.ensures))))
