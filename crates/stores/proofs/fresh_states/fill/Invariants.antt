use Rattle.std.proofs.Common.{◌≡◌, get_or}
use Rattle.theory.specs.Lists.{made_over}
use Rattle.paper.specs.State.{most_soil_of}
use Rattle.covers.specs.Slots.{cell_from}
use Rattle.stores.proofs.fresh_states.fill.Given as goal

abbrev pub invariant-loop-i : goal.invariant-loop-i
invariant-loop-i l =
    (l.soil ≡ made_over l.i (λ k. most_soil_of (cell_from l.covers (get_or l.slots k 0) (get_or l.available k 0) 0)) l.initial.soil)
    × (l.snow ≡ made_over l.i (λ k. 0) l.initial.snow)
