use Rattle.std.proofs.Common.{not}
use Rattle.paper.specs.Covers.{entry_fits}
use Rattle.records.proofs.PlaceLaws.{PassedTo}
use Rattle.covers.proofs.table.bad_entry.Given as goal

abbrev pub invariant-loop-e : goal.invariant-loop-e
invariant-loop-e l = PassedTo (λ k. not (entry_fits l.covers k)) l.e
