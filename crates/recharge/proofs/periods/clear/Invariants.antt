use Rattle.std.proofs.Common.{◌≡◌}
use Rattle.theory.specs.Lists.{made_over}
use Rattle.recharge.proofs.periods.clear.Given as goal

abbrev pub invariant-loop-i : goal.invariant-loop-i
invariant-loop-i l = l.sums ≡ made_over l.i (λ k. 0) l.initial.sums
