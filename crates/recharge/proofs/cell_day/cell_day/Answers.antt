-- `cell_day::cell_day` meets its contract: its steps are those of the paper's rules, and every figure fits 32 bits.
use Rattle.std.proofs.Common.{refl, ◌+◌, ◌-◌, ◌<◌, arith}
use Rattle.weather.specs.Today.{today_as}
use Rattle.recharge.specs.Depths.{gathered_limit}
use Rattle.covers.specs.Grounds.{plot_as}
use Rattle.recharge.specs.Soil.{soil_day_as}
use Rattle.recharge.specs.CellDay.{own_by, Fit32}
use Rattle.recharge.proofs.FigureLaws.{stepped, steps_are, steps_fit}
use Rattle.recharge.proofs.cell_day.cell_day.Goals.{After-runs_on-on, After-struct_known-5-1}
use Rattle.recharge.proofs.cell_day.cell_day.Goals as goal

wet : (c : goal.After-struct_known-5-1) → let a = c.args in a.plot.rain.0 + c.melt-melted.result.0 + a.arrived.0 < gathered_limit
unfolding own_by
wet c = omega (arith, c.melt-melted.ensures, c.requires.wet)

fits : (c : goal.After-runs_on-on)
    → let a = c.args in
    Fit32 (stepped (plot_as a.plot) (c.runs_off-surface.result.0 + c.runs_on-on.result.0) (soil_day_as c.soil_day-ground.result) (a.snow.0 + a.plot.snowfall.0 - c.melt-melted.result.0))
fits c = steps_fit _ _ _ _ _ _ _ _ _ _ _ _ c.melt-melted.ensures c.runs_off-surface.ensures c.beyond.ensures c.soil_day-ground.ensures c.runs_on-on.ensures refl c.requires

pub overflow_add-water : goal.overflow_add-water
unfolding own_by
overflow_add-water c = omega (arith, c.melt-melted.ensures, c.requires.wet)

pub runs_off-surface-requires : goal.runs_off-surface-requires
runs_off-surface-requires c = (c.requires.plot.curve, omega (arith, wet (goal.at.runs_off-surface-requires c).After-struct_known-5-1))

pub soil_day-ground-requires : goal.soil_day-ground-requires
soil_day-ground-requires c =
    let p = c.requires in
    (p.plot.capacity, p.held, omega (arith, c.beyond.ensures, wet (goal.at.soil_day-ground-requires c).After-struct_known-5-1), p.potential, p.retained)

pub overflow_add-outflow : goal.overflow_add-outflow
overflow_add-outflow c = omega (arith, (fits (goal.at.overflow_add-outflow c).After-runs_on-on).outflow)

pub overflow_add-water-2 : goal.overflow_add-water-2
overflow_add-water-2 c = omega (arith, wet (goal.at.overflow_add-water-2 c).After-struct_known-5-1)

pub overflow_cast-result-2 : goal.overflow_cast-result-2
overflow_cast-result-2 c = omega (arith, (fits (goal.at.overflow_cast-result-2 c).After-runs_on-on).outflow)

pub overflow_cast-result-3 : goal.overflow_cast-result-3
overflow_cast-result-3 c = omega (arith, (fits (goal.at.overflow_cast-result-3 c).After-runs_on-on).evapotranspired)

pub overflow_cast-result-4 : goal.overflow_cast-result-4
overflow_cast-result-4 c = omega (arith, (fits (goal.at.overflow_cast-result-4 c).After-runs_on-on).recharged)

pub overflow_cast-result-5 : goal.overflow_cast-result-5
overflow_cast-result-5 c = omega (arith, (fits (goal.at.overflow_cast-result-5 c).After-runs_on-on).rejected)

pub overflow_cast-result-6 : goal.overflow_cast-result-6
overflow_cast-result-6 c = omega (arith, (fits (goal.at.overflow_cast-result-6 c).After-runs_on-on).soil, c.requires.held, c.requires.plot.capacity)

pub returns : goal.returns
returns c =
    steps_are (today_as c.args.today) _ _ _ _ _ _ _ _ _ _ _ c.melt-melted.ensures c.runs_off-surface.ensures c.beyond.ensures c.soil_day-ground.ensures c.runs_on-on.ensures c.beyond-2.ensures
