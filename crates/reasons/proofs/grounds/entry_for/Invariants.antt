use Rattle.std.proofs.Common.{eqb}
use Rattle.paper.specs.Covers.{code_of}
use Rattle.records.proofs.PlaceLaws.{PassedTo}
use Rattle.reasons.proofs.grounds.entry_for.Given as goal

abbrev pub invariant-loop-e : goal.invariant-loop-e
invariant-loop-e l = PassedTo (λ k. eqb (code_of l.covers k) l.code) l.e
