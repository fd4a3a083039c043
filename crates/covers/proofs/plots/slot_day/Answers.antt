-- `plots::slot_day` meets its contract: on open water all of gross precipitation is rain, and on land the code's steps are the paper's rules 2, 3 and 5.
use Rattle.std.proofs.Common.{sym, ap, ◌∙◌, ◌/◌, arith, eq-eqb, ne_eqb}
use Rattle.weather.specs.Today.{today_as}
use Rattle.paper.specs.Covers.{number_of}
use Rattle.covers.proofs.SlotLaws.{entry_there}
use Rattle.covers.proofs.PlotLaws.{on_water, on_land, curve_small}
use Rattle.covers.proofs.plots.slot_day.Goals as goal

pub entry_number-requires : goal.entry_number-requires
entry_number-requires c = (entry_there _ _ c.requires.0, omega arith)

pub returns-then-entry_number-eq1 : goal.returns-then-entry_number-eq1
returns-then-entry_number-eq1 c = on_water (today_as c.args.today) _ _ (eq-eqb _ _ (sym c.entry_number.ensures ∙ c.if-entry_number-eq1.true))

pub entry_number-figure-requires : goal.entry_number-figure-requires
entry_number-figure-requires c = (entry_there _ _ c.requires.0, c.season_figure.ensures.1)

pub entry_number-requires-2 : goal.entry_number-requires-2
entry_number-requires-2 c = (entry_there _ _ c.requires.0, omega arith)

pub entry_number-root_depth-requires : goal.entry_number-root_depth-requires
entry_number-root_depth-requires c = (entry_there _ _ c.requires.0, omega arith)

pub entry_number-largest_recharge-requires : goal.entry_number-largest_recharge-requires
entry_number-largest_recharge-requires c = (entry_there _ _ c.requires.0, omega arith)

pub overflow_cast-result-3 : goal.overflow_cast-result-3
overflow_cast-result-3 c = omega (arith, c.curve_number-curve.ensures, curve_small (today_as c.args.today).condition c.entry_number-2.result (omega arith))

pub returns : goal.returns
returns c =
    let a = c.args in
    on_land (today_as a.today) a.covers.now a.slot _ _ _ _ _ _ _ _ _ (ne_eqb _ _ (λ e. c.if-entry_number-eq1.false (c.entry_number.ensures ∙ e)))
    (c.depth.ensures ∙ c.entry_number-figure.ensures ∙ ap (number_of a.covers.now (a.slot / 4)) c.season_figure.ensures.0)
    c.smaller-intercepted.ensures c.beyond-net.ensures c.falling.ensures c.falling-2.ensures
    c.entry_number-2.ensures c.curve_number-curve.ensures c.entry_number-root_depth.ensures c.entry_number-largest_recharge.ensures
