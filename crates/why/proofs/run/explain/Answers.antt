-- `run::explain` meets its contract: there is room for the longest lines.
use Rattle.std.proofs.Common.{arith}
use Rattle.explained.proofs.TellingLaws.{tells_inside}
use Rattle.why.proofs.run.explain.Goals as goal

pub returns : goal.returns
returns c = tells_inside _ _ _ _ _ _ c.explain_day.ensures.lines (omega arith)
