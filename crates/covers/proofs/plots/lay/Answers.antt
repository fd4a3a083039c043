-- `plots::lay` meets its contract: the slots below the loop's have their numbers, and it stops at the table's end or at the room's.
use Rattle.std.proofs.Common.{◌≡◌, sym, ap, ◌∙◌, ◌+◌, ◌*◌, ◌/◌, ◌≤◌, min, arith, length, length-set, rules}
use Rattle.theory.proofs.ListLaws.{over_none, over_length}
use Rattle.paper.specs.Covers.{entries}
use Rattle.weather.specs.Today.{today_as}
use Rattle.covers.specs.Plots.{plot_number}
use Rattle.covers.proofs.PlotLaws.{laid}
use Rattle.covers.proofs.plots.lay.Goals.{At-loop-slot, In-loop-slot}
use Rattle.covers.proofs.plots.lay.Goals as goal

-- the loop's slots have room
within : (c : goal.At-loop-slot) → 6 * c.loop-slot.slot ≤ length c.args.plots.now
within c = omega (arith, c.min-slot-end.ensures, c.loop-slot.auto.slot-end)

-- what is laid keeps the length
same : (c : goal.At-loop-slot) → length c.loop-slot.plots ≡ length c.args.plots.now
same c = let a = c.args in
    ap length c.loop-slot.invariant ∙ over_length (6 * c.loop-slot.slot) (plot_number (today_as a.today) a.covers.now) a.plots.now (within c)

-- room for the slot's six numbers
room : (c : goal.In-loop-slot) → 6 * c.loop-slot.slot + 6 ≤ length c.loop-slot.plots
room c = omega (arith, same (goal.at.In-loop-slot c).At-loop-slot, c.min-slot-end.ensures, c.loop-slot-test.true)

pub loop-slot-init : goal.loop-slot-init
loop-slot-init c = sym (over_none _ _)

pub slot_day-cover-requires : goal.slot_day-cover-requires
unfolding entries
slot_day-cover-requires c = (omega (arith, c.min-slot-end.ensures, c.loop-slot-test.true), c.requires)

pub bounds-plots-at : goal.bounds-plots-at
bounds-plots-at c = omega (arith, room (goal.at.bounds-plots-at c).In-loop-slot)

pub bounds-plots-at-in-loop-slot : goal.bounds-plots-at-in-loop-slot
bounds-plots-at-in-loop-slot c = simp length-set (omega (arith, room (goal.at.bounds-plots-at-in-loop-slot c).In-loop-slot))

pub bounds-plots-at-in-loop-slot-2 : goal.bounds-plots-at-in-loop-slot-2
bounds-plots-at-in-loop-slot-2 c = simp length-set (omega (arith, room (goal.at.bounds-plots-at-in-loop-slot-2 c).In-loop-slot))

pub bounds-plots-at-in-loop-slot-3 : goal.bounds-plots-at-in-loop-slot-3
bounds-plots-at-in-loop-slot-3 c = simp length-set (omega (arith, room (goal.at.bounds-plots-at-in-loop-slot-3 c).In-loop-slot))

pub bounds-plots-at-in-loop-slot-4 : goal.bounds-plots-at-in-loop-slot-4
bounds-plots-at-in-loop-slot-4 c = simp length-set (omega (arith, room (goal.at.bounds-plots-at-in-loop-slot-4 c).In-loop-slot))

pub bounds-plots-at-in-loop-slot-5 : goal.bounds-plots-at-in-loop-slot-5
bounds-plots-at-in-loop-slot-5 c = simp length-set (omega (arith, room (goal.at.bounds-plots-at-in-loop-slot-5 c).In-loop-slot))

pub loop-slot-preserved : goal.loop-slot-preserved
loop-slot-preserved c =
    laid (today_as c.args.today) _ _ _ _ _ _ _ _ _ _ c.slot_day-cover.ensures (omega (arith, room (goal.at.loop-slot-preserved c).In-loop-slot)) c.loop-slot.invariant

pub shape_of-plots : goal.shape_of-plots
shape_of-plots c = same (goal.at.shape_of-plots c).At-loop-slot

pub returns : goal.returns
unfolding entries
returns c =
    let a = c.args in
    let all : c.loop-slot.slot ≡ min (length a.plots.now / 6) (4 * entries a.covers.now) = omega (arith, c.min-slot-end.ensures, c.loop-slot-test.false, c.loop-slot.auto.slot-end) in
    rw all at c.loop-slot.invariant
