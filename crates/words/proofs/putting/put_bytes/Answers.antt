-- `putting::put_bytes` meets its contract: as many bytes are put as the loop has passed.
use Rattle.std.proofs.Common.{arith}
use Rattle.words.proofs.WritingLaws.{put_none, put_next, put_all}
use Rattle.words.proofs.putting.put_bytes.Goals as goal

pub loop-byte-init : goal.loop-byte-init
loop-byte-init c = put_none _ _ (omega arith)

pub loop-byte-preserved : goal.loop-byte-preserved
loop-byte-preserved c =
    put_next c.args.bytes.now c.loop-byte.byte-index (omega arith) c.loop-byte-test.true c.loop-byte.invariant c.put_byte-next.ensures

pub returns : goal.returns
returns c = put_all c.args.bytes.now c.loop-byte.byte-index c.loop-byte-test.false c.loop-byte.invariant
