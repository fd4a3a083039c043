-- `putting::put_number` meets its contract: the digits of the tenth part come first, and the last digit after them.
use Rattle.std.proofs.Common.{sym, arith}
use Rattle.words.proofs.DigitLaws.{digits_one, digits_more}
use Rattle.words.proofs.WritingLaws.{put_then, put_as}
use Rattle.words.proofs.putting.+put_number.Goals as goal

pub returns-then-n-lt10 : goal.returns-then-n-lt10
returns-then-n-lt10 t c = put_as _ c.put_byte.ensures (rw c.digit.ensures (sym (digits_one c.args.n c.if-n-lt10.true)))

pub returns : goal.returns
returns t c =
    put_as _ (put_then (omega arith) c.put_number-last.ensures c.put_byte-2.ensures)
    (rw c.digit-2.ensures (sym (digits_more c.args.n c.if-n-lt10.false)))
