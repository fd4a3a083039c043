-- `putting::put_below` meets its contract: a minus, and the digits after it.
use native.Mathlib.Omega.{arith}
use Rattle.words.proofs.WritingLaws.{put_then}
use Rattle.words.proofs.putting.put_below.Goals as goal

pub returns : goal.returns
returns c = put_then (omega arith) c.put_byte-next.ensures c.put_number.ensures
