-- `downhill::day_at` meets its contract: what is read is the cell's plot and stores, and what has arrived at it.
use Rattle.recharge.proofs.DownhillLaws.{lent_ready, lent_day}
use Rattle.recharge.proofs.downhill.day_at.Goals as goal

pub cell_day-requires : goal.cell_day-requires
cell_day-requires c =
    lent_ready c.requires _ _ _ _ c.plot_at-plot.ensures
    c.depth.ensures c.depth-2.ensures c.depth-3.ensures

pub returns : goal.returns
returns c =
    lent_day c.requires _ _ _ _ c.plot_at-plot.ensures
    c.depth.ensures c.depth-2.ensures c.depth-3.ensures _ _ c.cell_day.ensures
