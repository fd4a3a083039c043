-- `saying::say_two` meets its contract: one after the other.
use Rattle.std.proofs.Common.{arith}
use Rattle.explained.proofs.LineLaws.{wrote_within, say_then}
use Rattle.explained.proofs.saying.say_two.Goals as goal

pub returns : goal.returns
returns c = wrote_within (say_then (omega arith) _ _ _ c.say-next.ensures (λ long. c.say.ensures)) (omega arith)
