-- `downhill::downhill` meets its contract: the loop's invariant is the pass before the turn, and each turn is one turn of it.
use Rattle.std.proofs.Common.{refl, sym, ◌∙◌, ◌<◌, arith, length}
use Rattle.recharge.specs.Downhill.{slices_of, Sized}
use Rattle.recharge.proofs.DownhillLaws.{pass_none, pass_sized, pass_room, pass_end, pass_inside, pass_small, pass_lent, pass_fits, pass_more}
use Rattle.recharge.proofs.downhill.downhill.Goals.{After-add_cell-totals, After-index_of-cell}
use Rattle.recharge.proofs.downhill.downhill.Goals as goal

small : (c : goal.After-index_of-cell) → c.index_of-cell.result < 4096
small c = pass_small c.loop-turn.invariant c.loop-turn-test.true _ c.index_of-cell.ensures

-- one entry a cell
sized : (c : goal.After-add_cell-totals)
    → Sized (length c.args.available.now)
    (slices_of c.loop-turn.soil c.loop-turn.snow c.loop-turn.intercepted c.loop-turn.outflow c.loop-turn.evapotranspired c.loop-turn.recharged c.loop-turn.rejected)
sized c = pass_sized c.loop-turn.invariant

inside : (c : goal.After-add_cell-totals) → c.index_of-cell.result < length c.args.available.now
inside c = pass_inside c.loop-turn.invariant c.loop-turn-test.true _ c.index_of-cell.ensures

pub loop-turn-init : goal.loop-turn-init
loop-turn-init c = pass_none c.requires _ c.none-totals.ensures _ c.retention.ensures

pub offset_bounds-order-turn : goal.offset_bounds-order-turn
offset_bounds-order-turn c = omega (arith, c.loop-turn-test.true, c.loop-turn.invariant.ready.pointing.most)

pub bounds-order-turn : goal.bounds-order-turn
bounds-order-turn c = omega (arith, c.loop-turn-test.true, c.loop-turn.invariant.ready.pointing.most)

pub offset_bounds-ways-cell : goal.offset_bounds-ways-cell
offset_bounds-ways-cell c = omega (arith, small (goal.at.offset_bounds-ways-cell c).After-index_of-cell)

pub bounds-ways-cell : goal.bounds-ways-cell
bounds-ways-cell c = omega (arith, small (goal.at.bounds-ways-cell c).After-index_of-cell)

pub day_at-day-requires : goal.day_at-day-requires
day_at-day-requires c = pass_lent c.loop-turn.invariant c.loop-turn-test.true _ c.index_of-cell.ensures

pub hand_on-requires : goal.hand_on-requires
hand_on-requires c =
    let p = c.loop-turn.invariant in
    (p.ready.pointing.most, pass_fits p c.loop-turn-test.true _ c.index_of-cell.ensures _ c.day_at-day.ensures)

pub add_cell-totals-requires : goal.add_cell-totals-requires
add_cell-totals-requires c = let p = c.loop-turn.invariant in (pass_room p, p.ready.gross)

pub offset_bounds-soil-cell : goal.offset_bounds-soil-cell
offset_bounds-soil-cell c = omega (arith, small (goal.at.offset_bounds-soil-cell c).After-index_of-cell)

pub bounds-soil-cell : goal.bounds-soil-cell
bounds-soil-cell c = omega (arith, inside (goal.at.bounds-soil-cell c).After-add_cell-totals, (sized (goal.at.bounds-soil-cell c).After-add_cell-totals).soil)

pub offset_bounds-snow-cell : goal.offset_bounds-snow-cell
offset_bounds-snow-cell c = omega (arith, small (goal.at.offset_bounds-snow-cell c).After-index_of-cell)

pub bounds-snow-cell : goal.bounds-snow-cell
bounds-snow-cell c = omega (arith, inside (goal.at.bounds-snow-cell c).After-add_cell-totals, (sized (goal.at.bounds-snow-cell c).After-add_cell-totals).snow)

pub offset_bounds-intercepted-cell : goal.offset_bounds-intercepted-cell
offset_bounds-intercepted-cell c = omega (arith, small (goal.at.offset_bounds-intercepted-cell c).After-index_of-cell)

pub bounds-intercepted-cell : goal.bounds-intercepted-cell
bounds-intercepted-cell c = omega (arith, inside (goal.at.bounds-intercepted-cell c).After-add_cell-totals, (sized (goal.at.bounds-intercepted-cell c).After-add_cell-totals).intercepted)

pub offset_bounds-outflow-cell : goal.offset_bounds-outflow-cell
offset_bounds-outflow-cell c = omega (arith, small (goal.at.offset_bounds-outflow-cell c).After-index_of-cell)

pub bounds-outflow-cell : goal.bounds-outflow-cell
bounds-outflow-cell c = omega (arith, inside (goal.at.bounds-outflow-cell c).After-add_cell-totals, (sized (goal.at.bounds-outflow-cell c).After-add_cell-totals).outflow)

pub offset_bounds-evapotranspired-cell : goal.offset_bounds-evapotranspired-cell
offset_bounds-evapotranspired-cell c = omega (arith, small (goal.at.offset_bounds-evapotranspired-cell c).After-index_of-cell)

pub bounds-evapotranspired-cell : goal.bounds-evapotranspired-cell
bounds-evapotranspired-cell c = omega (arith, inside (goal.at.bounds-evapotranspired-cell c).After-add_cell-totals, (sized (goal.at.bounds-evapotranspired-cell c).After-add_cell-totals).evapotranspired)

pub offset_bounds-recharged-cell : goal.offset_bounds-recharged-cell
offset_bounds-recharged-cell c = omega (arith, small (goal.at.offset_bounds-recharged-cell c).After-index_of-cell)

pub bounds-recharged-cell : goal.bounds-recharged-cell
bounds-recharged-cell c = omega (arith, inside (goal.at.bounds-recharged-cell c).After-add_cell-totals, (sized (goal.at.bounds-recharged-cell c).After-add_cell-totals).recharged)

pub offset_bounds-rejected-cell : goal.offset_bounds-rejected-cell
offset_bounds-rejected-cell c = omega (arith, small (goal.at.offset_bounds-rejected-cell c).After-index_of-cell)

pub bounds-rejected-cell : goal.bounds-rejected-cell
bounds-rejected-cell c = omega (arith, inside (goal.at.bounds-rejected-cell c).After-add_cell-totals, (sized (goal.at.bounds-rejected-cell c).After-add_cell-totals).rejected)

pub loop-turn-preserved : goal.loop-turn-preserved
loop-turn-preserved c =
    pass_more c.loop-turn.invariant c.loop-turn-test.true _ c.index_of-cell.ensures _ c.day_at-day.ensures _ _ _ _ c.add_cell-totals.ensures
    c.left_in.ensures c.gone_from.ensures c.hand_on.ensures

pub shape_of-soil : goal.shape_of-soil
shape_of-soil c = let p = c.loop-turn.invariant in (pass_sized p).soil ∙ sym p.ready.sized.soil

pub shape_of-snow : goal.shape_of-snow
shape_of-snow c = let p = c.loop-turn.invariant in (pass_sized p).snow ∙ sym p.ready.sized.snow

pub shape_of-intercepted : goal.shape_of-intercepted
shape_of-intercepted c = let p = c.loop-turn.invariant in (pass_sized p).intercepted ∙ sym p.ready.sized.intercepted

pub shape_of-outflow : goal.shape_of-outflow
shape_of-outflow c = let p = c.loop-turn.invariant in (pass_sized p).outflow ∙ sym p.ready.sized.outflow

pub shape_of-evapotranspired : goal.shape_of-evapotranspired
shape_of-evapotranspired c = let p = c.loop-turn.invariant in (pass_sized p).evapotranspired ∙ sym p.ready.sized.evapotranspired

pub shape_of-recharged : goal.shape_of-recharged
shape_of-recharged c = let p = c.loop-turn.invariant in (pass_sized p).recharged ∙ sym p.ready.sized.recharged

pub shape_of-rejected : goal.shape_of-rejected
shape_of-rejected c = let p = c.loop-turn.invariant in (pass_sized p).rejected ∙ sym p.ready.sized.rejected

pub returns : goal.returns
returns c = pass_end c.loop-turn.invariant _ refl c.loop-turn-test.false
