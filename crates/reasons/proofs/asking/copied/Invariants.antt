use Rattle.std.proofs.Common.{◌≡◌, get_or, replicate}
use Rattle.theory.specs.Lists.{made_over}
use Rattle.reasons.proofs.asking.copied.Given as goal

abbrev pub invariant-loop-i : goal.invariant-loop-i
invariant-loop-i l = l.copy ≡ made_over l.i (λ k. get_or l.store k 0) (replicate 4096 0)
