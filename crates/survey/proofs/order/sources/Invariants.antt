use Rattle.std.proofs.Common.{◌≤◌, ◌-◌}
use Rattle.survey.specs.Order.{waits, GatheredHeld}
use Rattle.survey.proofs.order.sources.Given as goal

abbrev pub invariant-loop-i : goal.invariant-loop-i
invariant-loop-i l = GatheredHeld l.n (waits l.initial.order) l.i l.tail l.order
