use Rattle.std.proofs.Common.{◌≡◌, ◌*◌}
use Rattle.theory.specs.Lists.{made_over}
use Rattle.weather.specs.Today.{today_as}
use Rattle.covers.specs.Plots.{plot_number}
use Rattle.covers.proofs.plots.lay.Given as goal

abbrev pub invariant-loop-slot : goal.invariant-loop-slot
invariant-loop-slot l = l.plots ≡ made_over (6 * l.slot) (plot_number (today_as l.today) l.covers) l.initial.plots
