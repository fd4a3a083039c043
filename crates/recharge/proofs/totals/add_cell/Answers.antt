-- `totals::add_cell` meets its contract: each total takes its figure of the cell, with room for it in 64 bits.
use Rattle.std.proofs.Common.{◌+◌}
use Rattle.recharge.specs.Totals.{with_cell}
use Rattle.recharge.proofs.totals.add_cell.Goals as goal

pub returns : goal.returns
unfolding with_cell
returns c =
    λ k. record {
      gross = c.args.totals.gross.0 + c.args.gross.0;
      intercepted = c.more.ensures k;
      evapotranspired = c.more-2.ensures k;
      recharged = c.more-3.ensures k;
      rejected = c.more-4.ensures k;
      gone = c.more-5.ensures k;
      stored = c.args.totals.stored.0 + (c.args.day.soil + c.args.day.snow);
    }
