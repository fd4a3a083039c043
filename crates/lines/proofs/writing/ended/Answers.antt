-- `writing::ended` meets its contract: the word and the row after it.
use Rattle.std.proofs.Common.{arith}
use Rattle.words.specs.Digits.{bytes}
use Rattle.lines.specs.Lines.{end_line}
use Rattle.words.proofs.WritingLaws.{wrote_bytes, wrote_then}
use Rattle.lines.proofs.WritingLaws.{wrote_item, row_last}
use Rattle.lines.proofs.writing.ended.Goals as goal

pub returns : goal.returns
unfolding end_line bytes
returns c = wrote_then (omega arith) (wrote_bytes c.put_bytes-next.ensures)
    (row_last _ (wrote_item _ _ (omega arith) c.put_item.ensures))
