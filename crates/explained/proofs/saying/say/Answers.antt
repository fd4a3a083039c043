-- `saying::say` meets its contract: the words, then the depth.
use Rattle.std.proofs.Common.{arith}
use Rattle.words.proofs.WritingLaws.{wrote_bytes, wrote_then}
use Rattle.explained.proofs.saying.say.Goals as goal

pub returns : goal.returns
returns c = wrote_then (omega arith) (wrote_bytes c.put_bytes-next.ensures) c.put_inches.ensures
