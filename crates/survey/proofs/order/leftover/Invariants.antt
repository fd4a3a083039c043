use Rattle.std.proofs.Common.{◌≡◌, false, ℕ, ◌≤◌, ◌<◌, ◌-◌, ltb}
use Rattle.survey.specs.Order.{waits}
use Rattle.survey.proofs.order.leftover.Given as goal

abbrev pub invariant-loop-i : goal.invariant-loop-i
invariant-loop-i l = (k : ℕ) → k < l.i → ltb 0 (waits l.order k) ≡ false
