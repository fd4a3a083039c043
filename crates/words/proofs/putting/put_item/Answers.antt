-- `putting::put_item` meets its contract: the digits, and one byte after them.
use native.Mathlib.Omega.{arith}
use Rattle.words.proofs.WritingLaws.{put_then}
use Rattle.words.proofs.putting.put_item.Goals as goal

pub returns : goal.returns
returns c = put_then (omega arith) c.put_number-last.ensures c.put_byte.ensures
