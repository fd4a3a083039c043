use Rattle.std.proofs.Common.{◌≡◌, drop}
use Rattle.paper.specs.Refusals.{one_each}
use Rattle.records.proofs.lent.one_each.Given as goal

abbrev pub invariant-loop-length : goal.invariant-loop-length
invariant-loop-length l = one_each l.n l.lengths ≡ one_each l.n (drop l.length-index l.lengths)
