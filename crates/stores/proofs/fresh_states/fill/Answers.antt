-- `fresh_states::fill` meets its contract: the stores filled so far are those of a fresh state, by the root depths of the table's slots.
use Rattle.std.proofs.Common.{◌≡◌, sym, ap, ◌∙◌, ℕ, ◌*◌, add-one, arith, rules, length, get_or}
use Rattle.theory.proofs.ListLaws.{over_none, over_more, over_all, over_length, over_room}
use Rattle.paper.specs.State.{most_soil_of}
use Rattle.covers.specs.Slots.{cell_from}
use Rattle.stores.proofs.FreshLaws.{full_fits, full_is}
use Rattle.stores.proofs.fresh_states.fill.Goals.{After-small_index}
use Rattle.stores.proofs.fresh_states.fill.Goals as goal

pub loop-i-init : goal.loop-i-init
loop-i-init c = (sym (over_none _ _), sym (over_none {A = ℕ} _ _))

pub overflow_mul-soil : goal.overflow_mul-soil
overflow_mul-soil c =
    rw c.small_index.ensures.0 (omega (arith, full_fits _ _ _ _ c.requires.0 c.root_depths-roots.ensures c.loop-i.i c.loop-i-test.true))

pub bounds-soil-i : goal.bounds-soil-i
bounds-soil-i c = over_room _ _ _ _ c.loop-i.invariant.0 (omega (arith, c.requires.1))

pub bounds-snow-i : goal.bounds-snow-i
bounds-snow-i c = over_room _ _ _ _ c.loop-i.invariant.1 (omega (arith, c.requires.2))

-- what is written into the cell's soil
full : (c : goal.After-small_index)
    → get_or c.args.available.now c.loop-i.i 0 * get_or c.root_depths-roots.result c.small_index.result 0
    ≡ most_soil_of (cell_from c.args.covers.now (get_or c.args.slots.now c.loop-i.i 0) (get_or c.args.available.now c.loop-i.i 0) 0)
full c =
    ap (λ (k : ℕ). get_or c.args.available.now c.loop-i.i 0 * get_or c.root_depths-roots.result k 0) c.small_index.ensures.0
    ∙ full_is _ _ _ _ c.requires.0 c.root_depths-roots.ensures c.loop-i.i c.loop-i-test.true

pub loop-i-preserved : goal.loop-i-preserved
loop-i-preserved c =
    let inv = c.loop-i.invariant in (
      rw (add-one, inv.0, full (goal.at.loop-i-preserved c).After-small_index) (over_more _ _ _ (omega (arith, c.requires.1, c.loop-i-test.true))),
      rw (add-one, inv.1) (over_more {A = ℕ} _ _ _ (omega (arith, c.requires.2, c.loop-i-test.true))),
    )

pub shape_of-soil : goal.shape_of-soil
shape_of-soil c = ap length c.loop-i.invariant.0 ∙ over_length _ _ _ (omega (arith, c.requires.1, c.loop-i.auto.i-end))

pub shape_of-snow : goal.shape_of-snow
shape_of-snow c = ap length c.loop-i.invariant.1 ∙ over_length {A = ℕ} _ _ _ (omega (arith, c.requires.2, c.loop-i.auto.i-end))

pub returns : goal.returns
returns c =
    let inv = c.loop-i.invariant in
    let all : c.loop-i.i ≡ length c.args.available.now = omega (arith, c.loop-i-test.false, c.loop-i.auto.i-end) in
    record {
      soils = inv.0 ∙ rw all (over_all _ _ _ c.requires.1);
      snows = inv.1 ∙ rw all (over_all {A = ℕ} _ _ _ c.requires.2);
    }
