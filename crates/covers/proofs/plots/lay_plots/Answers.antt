-- `plots::lay_plots` meets its contract: the array is lent as a slice of 1,536 numbers, which has room for 256 slots.
use Rattle.std.proofs.Common.{◌≡◌, length, rules, le-leb}
use borrow.Author.Tests.{lt-leb}
use Rattle.covers.specs.Plots.{plots_of}
use Rattle.covers.proofs.plots.lay_plots.Goals as goal

pub returns-then-today : goal.returns-then-today
unfolding plots_of
returns-then-today c =
    let sized : length c.args.plots.now ≡ 1536 = search rules in
    rw (le-leb _ _ c.if-today.true) (rw sized at c.lay.ensures)

pub returns-else-today : goal.returns-else-today
unfolding plots_of
returns-else-today c = rw (lt-leb _ _ c.if-today.false)
