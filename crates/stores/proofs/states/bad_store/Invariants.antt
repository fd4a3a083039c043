use Rattle.std.proofs.Common.{not}
use Rattle.records.proofs.PlaceLaws.{PassedTo}
use Rattle.stores.specs.States.{stores_at}
use Rattle.stores.proofs.states.bad_store.Given as goal

abbrev pub invariant-loop-i : goal.invariant-loop-i
invariant-loop-i l = PassedTo (λ k. not (stores_at l.covers l.slots l.available l.soil l.snow k)) l.i
