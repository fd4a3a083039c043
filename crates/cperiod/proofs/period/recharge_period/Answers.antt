-- `period::recharge_period` meets its contract: the library is handed what C lent, and its answer is told as C's numbers.
use Rattle.std.proofs.Common.{refl, ◌∙◌}
use Rattle.clib.proofs.HandedLaws.{told_near}
use Rattle.cperiod.proofs.PeriodLaws.{period_near, period_handed}
use Rattle.cperiod.proofs.period.recharge_period.Goals as goal

pub returns : goal.returns
returns c =
    record {
      ended = c.period-ended.result;
      is =
          period_handed _ _ c.setup_given-setup.ensures _ _ _ _ _ _ _ _ _ _
          c.period-ended.ensures;
      number = c.returned_as.ensures ∙ told_near _ (period_near _ _ _ _ _ _ _ _ _ _ _ c.period-ended.ensures);
      counted = refl;
    }
