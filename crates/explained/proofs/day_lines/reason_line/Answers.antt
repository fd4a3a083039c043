-- `day_lines::reason_line` meets its contract: the serial, then words and a depth twice, one after another, with room for the longest words.
use Rattle.std.proofs.Common.{arith}
use Rattle.words.specs.Digits.{bytes}
use Rattle.words.proofs.WritingLaws.{wrote_bytes}
use Rattle.reasons.specs.Whys.{reason_as}
use Rattle.explained.specs.Lines.{reason_line}
use Rattle.explained.proofs.LineLaws.{wrote_number, wrote_within, part_then, two_then, words_fit}
use Rattle.explained.proofs.day_lines.reason_line.Goals as goal

pub returns : goal.returns
unfolding bytes reason_line
returns c = wrote_within
    (part_then (omega (arith, c.well_formed)) (wrote_bytes c.put_bytes-a.ensures)
    (λ long. part_then long (rw c.wide.ensures at (wrote_number _ (omega arith) c.put_number-b.ensures))
    (λ long. part_then long (wrote_bytes c.put_bytes-c.ensures)
    (λ long. two_then long _ _ _ _ _ (rw (c.first_words-first.ensures, c.second_words-second.ensures) at c.say_two-d.ensures) (λ long. wrote_bytes c.put_bytes.ensures)))))
    (omega (arith, words_fit (reason_as c.args.why.reason)))
