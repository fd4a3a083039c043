-- `states::bad_store` meets its contract: the cells that the search has passed all have stores that fit, by the root depths of the table's slots.
use Rattle.std.proofs.Common.{not, ap, sym, ◌∙◌, not-suc-le-zero, below_more, rules}
use Rattle.records.proofs.PlaceLaws.{found_place, no_place}
use Rattle.stores.specs.States.{stores_at}
use Rattle.stores.proofs.states.bad_store.Goals as goal

pub loop-i-init : goal.loop-i-init
loop-i-init c = λ j h. absurd (not-suc-le-zero h)

pub stores_fit-requires : goal.stores_fit-requires
stores_fit-requires c = c.root_depths-roots.ensures

pub returns-then-not-stores_fit : goal.returns-then-not-stores_fit
unfolding stores_at
returns-then-not-stores_fit c =
    found_place _ _ _ c.loop-i.invariant c.loop-i-test.true (ap not (sym c.stores_fit.ensures ∙ c.if-not-stores_fit.true))

pub loop-i-preserved : goal.loop-i-preserved
unfolding stores_at
loop-i-preserved c =
    below_more _ _ c.loop-i.invariant (ap not (sym c.stores_fit.ensures ∙ c.if-not-stores_fit.false))

pub returns : goal.returns
returns c = no_place _ _ _ c.loop-i.invariant c.loop-i-test.false
