-- `totals::put_totals` meets its contract: what is copied to the day's place is the seven totals written there.
use Rattle.records.specs.Answers.{totals_as}
use Rattle.daybook.proofs.TotalsLaws.{seven_copied}
use Rattle.daybook.proofs.totals.put_totals.Goals as goal

pub returns-then-k-list : goal.returns-then-k-list
returns-then-k-list c =
    seven_copied c.args.list.now c.args.k (totals_as c.args.totals) _ c.copy_from_slice.ensures.after c.if-k-list.true
