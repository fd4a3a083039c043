-- `reading::ran_off` meets its contract: what is beyond the rejected water.
use Rattle.std.proofs.Common.{arith}
use Rattle.reasons.proofs.reading.ran_off.Goals as goal

pub returns : goal.returns
returns c = (omega (arith, c.beyond.ensures, c.depth.ensures, c.depth-outflow.ensures), omega (arith, c.beyond.ensures, c.depth-outflow.ensures))
