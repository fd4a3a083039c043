use Rattle.std.proofs.Common.{◌≡◌, ◌*◌, replicate}
use Rattle.theory.specs.Lists.{made_over}
use Rattle.covers.specs.Slots.{group_number_at}
use Rattle.covers.proofs.slots.root_depths.Given as goal

abbrev pub invariant-loop-entry : goal.invariant-loop-entry
invariant-loop-entry l = l.roots ≡ made_over (4 * l.entry) (group_number_at l.covers 11) (replicate 256 0)
