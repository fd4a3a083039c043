-- `cells::lay_cells` meets its contract: the cells passed so far have their slots and their ways, with the row and the column beside the cell's
-- number, and are counted where they lead. A slot that was found has its entry in the table.
use Rattle.std.proofs.Common.{◌≡◌, sym, ap, ◌∙◌, ℕ, ◌+◌, ◌*◌, ◌/◌, ◌≤◌, arith, rules, length, eq-eqb}
use Rattle.theory.proofs.ListLaws.{over_length, over_room}
use Rattle.paper.specs.Covers.{entries}
use Rattle.survey.specs.Order.{wait_for}
use Rattle.records.proofs.PlaceLaws.{found_place, no_place}
use Rattle.survey.proofs.CountLaws.{count_none, count_fits}
use Rattle.survey.proofs.SlotLaws.{slot_below, whole_entry}
use Rattle.survey.proofs.LayingLaws.{laid_bad, laid_none, laid_row, laid_down, laid_right}
use Rattle.survey.proofs.cells.lay_cells.Goals.{Else-found-eq-NO_SLOT, then-column-width, else-column-width}
use Rattle.survey.proofs.cells.lay_cells.Goals as goal

pub none_waiting-requires : goal.none_waiting-requires
none_waiting-requires c =
    let sized : length c.args.order.now ≡ 4096 = search rules in
    rw (c.requires.coded, sized) c.requires.few

pub loop-i-init : goal.loop-i-init
loop-i-init c =
    let sized : length c.args.order.now ≡ 4096 = search rules in
    laid_none _ _ _ _ _ _ _ _ c.requires.wide
    (rw (c.none_waiting.ensures, c.requires.coded) (count_none _ sized c.requires.few))

pub slot-found-requires : goal.slot-found-requires
slot-found-requires c = c.requires.indexed

pub shape_of-slots-then-found-eq-NO_SLOT : goal.shape_of-slots-then-found-eq-NO_SLOT
shape_of-slots-then-found-eq-NO_SLOT c =
    let p = c.requires in
    ap length c.loop-i.invariant.slotted ∙ over_length _ _ _ (omega arith)

pub shape_of-ways-then-found-eq-NO_SLOT : goal.shape_of-ways-then-found-eq-NO_SLOT
shape_of-ways-then-found-eq-NO_SLOT c =
    let p = c.requires in
    ap length c.loop-i.invariant.laid ∙ over_length _ _ _ (omega arith)

pub returns-then-found-eq-NO_SLOT : goal.returns-then-found-eq-NO_SLOT
returns-then-found-eq-NO_SLOT c =
    laid_bad _ _ _ _ _ _ _ _ _
    (found_place _ _ _ c.loop-i.invariant.passed (omega arith) (eq-eqb _ _ (sym c.slot-found.ensures.0 ∙ c.if-found-eq-NO_SLOT.true)))

pub overflow_cast-slots : goal.overflow_cast-slots
overflow_cast-slots c = omega (arith, c.slot-found.ensures.1, c.if-found-eq-NO_SLOT.false)

pub bounds-slots-i : goal.bounds-slots-i
bounds-slots-i c =
    let p = c.requires in
    over_room _ _ _ _ c.loop-i.invariant.slotted (omega arith)

-- the entry of the slot that was found stands in the table
whole : (c : goal.Else-found-eq-NO_SLOT) → 16 * (c.slot-found.result / 4) + 16 ≤ length c.args.covers.now
whole c =
    whole_entry c.args.covers.now c.slot-found.result
    (slot_below _ _ _ _ _ (entries c.args.covers.now) c.slot-found.ensures.0 c.if-found-eq-NO_SLOT.false (c.requires.entered _))

pub overflow_mul-lake : goal.overflow_mul-lake
overflow_mul-lake c = omega (arith, whole (goal.at.overflow_mul-lake c).Else-found-eq-NO_SLOT)

pub overflow_add-lake : goal.overflow_add-lake
overflow_add-lake c = omega (arith, whole (goal.at.overflow_add-lake c).Else-found-eq-NO_SLOT)

pub offset_bounds-covers-found : goal.offset_bounds-covers-found
offset_bounds-covers-found c = omega (arith, whole (goal.at.offset_bounds-covers-found c).Else-found-eq-NO_SLOT)

pub bounds-covers-found : goal.bounds-covers-found
bounds-covers-found c = omega (arith, whole (goal.at.bounds-covers-found c).Else-found-eq-NO_SLOT)

pub bounds-direction-i : goal.bounds-direction-i
bounds-direction-i c = let p = c.requires in omega arith

pub cell_way-way-requires : goal.cell_way-way-requires
cell_way-way-requires c =
    let l = c.loop-i in
    (laid_row _ _ _ _ _ _ _ l.slots l.ways l.order l.row l.column l.i l.invariant (omega arith), l.invariant.inside, c.requires.few)

pub bounds-ways-i : goal.bounds-ways-i
bounds-ways-i c =
    let p = c.requires in
    over_room _ _ _ _ c.loop-i.invariant.laid (omega arith)

pub wait_for-requires : goal.wait_for-requires
wait_for-requires c =
    let p = c.requires in
    (omega arith, λ l. count_fits c.loop-i.invariant.counted (omega arith) _ (omega arith))

pub overflow_add-row : goal.overflow_add-row
overflow_add-row c =
    let l = c.loop-i in
    omega (arith, laid_row _ _ _ _ _ _ _ l.slots l.ways l.order l.row l.column l.i l.invariant (omega arith))

pub loop-i-preserved : goal.loop-i-preserved
loop-i-preserved c =
    let l = c.loop-i in
    let p = c.requires in
    elim c.if-column-width.branch [
      | then-column-width w ↦ laid_down _ _ _ _ _ _ _ l.slots l.ways l.order l.row l.column l.i l.invariant (omega arith) _ _
          p.slots_sized p.ways_sized p.few c.slot-found.ensures.0 c.if-found-eq-NO_SLOT.false c.cell_way-way.ensures _
          (c.wait_for.ensures ∙ ap (λ (n : ℕ). wait_for n c.cell_way-way.result l.order) p.coded) _ _ w.if-column-width.true w.row-is w.column-is
      | else-column-width w ↦ laid_right _ _ _ _ _ _ _ l.slots l.ways l.order l.row l.column l.i l.invariant (omega arith) _ _
          p.slots_sized p.ways_sized p.few c.slot-found.ensures.0 c.if-found-eq-NO_SLOT.false c.cell_way-way.ensures _
          (c.wait_for.ensures ∙ ap (λ (n : ℕ). wait_for n c.cell_way-way.result l.order) p.coded) _ _ w.if-column-width.false w.row-is w.column-is
    ]

pub shape_of-slots : goal.shape_of-slots
shape_of-slots c =
    let p = c.requires in
    ap length c.loop-i.invariant.slotted ∙ over_length _ _ _ (omega arith)

pub shape_of-ways : goal.shape_of-ways
shape_of-ways c =
    let p = c.requires in
    ap length c.loop-i.invariant.laid ∙ over_length _ _ _ (omega arith)

pub returns : goal.returns
returns c =
    let l = c.loop-i in
    let a = c.args in
    let all : l.i ≡ a.width * a.height = omega arith in
    record {
      lowest_bad = no_place _ _ _ l.invariant.passed (omega arith);
      slotted = λ e. rw all at l.invariant.slotted;
      laid = λ e. rw all at l.invariant.laid;
      counted = λ e. rw all at l.invariant.counted;
    }
