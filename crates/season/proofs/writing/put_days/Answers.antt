-- `writing::put_days` meets its contract: as many lines are put as the loop has passed.
use Rattle.std.proofs.Common.{arith}
use Rattle.season.proofs.LinesLaws.{days_none, days_more}
use Rattle.season.proofs.writing.put_days.Goals as goal

pub loop-k-init : goal.loop-k-init
loop-k-init c = days_none _ _ _

pub loop-k-preserved : goal.loop-k-preserved
loop-k-preserved c =
    days_more _ _ c.loop-k.k _ _ (omega (arith, c.well_formed)) c.day_at-day.ensures c.totals_at.ensures
    c.loop-k.invariant c.line-next.ensures
