-- `writing::put_name` meets its contract: the name, then the space.
use Rattle.std.proofs.Common.{arith}
use Rattle.words.proofs.WritingLaws.{put_then}
use Rattle.grids.proofs.writing.put_name.Goals as goal

pub returns : goal.returns
returns c = put_then (omega arith) c.put_bytes-end.ensures c.put_byte.ensures
