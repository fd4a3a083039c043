-- `answers::potential_text` meets its contract: a text that is too long is refused, any other is answered line by line.
use Rattle.std.proofs.Common.{arith}
use Rattle.words.proofs.WritingLaws.{wrote_whole}
use Rattle.station.proofs.AnswerLaws.{text_long, text_answered}
use Rattle.station.proofs.answers.potential_text.Goals as goal

pub returns-then-input-gt-MOST_BYTES : goal.returns-then-input-gt-MOST_BYTES
returns-then-input-gt-MOST_BYTES c = wrote_whole (text_long _ c.if-input-gt-MOST_BYTES.true) (omega arith) c.refused.ensures

pub returns : goal.returns
returns c = wrote_whole (text_answered _ c.if-input-gt-MOST_BYTES.false) (omega arith) c.answer_lines.ensures
