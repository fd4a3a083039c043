use Rattle.std.proofs.Common.{◌≤◌, ◌-◌}
use Rattle.survey.specs.Charts.{next_as}
use Rattle.survey.specs.Order.{PeeledHeld}
use Rattle.survey.proofs.PeelLaws.{InHand}
use Rattle.survey.proofs.order.peel.Given as goal

abbrev pub invariant-loop-cell : goal.invariant-loop-cell
invariant-loop-cell l = InHand l.n (next_as l.n l.ways) l.head l.sources l.tail l.way l.order

abbrev pub decreases-loop-cell : goal.decreases-loop-cell
decreases-loop-cell l = l.n - l.tail

abbrev pub invariant-loop-head : goal.invariant-loop-head
invariant-loop-head l = PeeledHeld l.n (next_as l.n l.ways) l.head l.sources l.tail l.order
