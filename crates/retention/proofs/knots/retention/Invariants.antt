use Rattle.retention.proofs.RetentionTable.{Filled}
use Rattle.retention.proofs.knots.retention.Given as goal

abbrev pub invariant-loop-i : goal.invariant-loop-i
invariant-loop-i l = Filled l.i l.f

abbrev pub invariant-loop-i-2 : goal.invariant-loop-i-2
invariant-loop-i-2 l = Filled l.i l.f
