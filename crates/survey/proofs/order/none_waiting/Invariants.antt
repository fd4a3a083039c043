use Rattle.std.proofs.Common.{◌≡◌, ◌-◌, ◌≤◌, length}
use Rattle.theory.specs.Lists.{made_over}
use Rattle.survey.proofs.order.none_waiting.Given as goal

abbrev pub invariant-loop-i : goal.invariant-loop-i
invariant-loop-i l = l.order ≡ made_over l.i (λ k. 0) l.initial.order
