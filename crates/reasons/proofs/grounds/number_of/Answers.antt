-- `grounds::number_of` meets its contract: past the table's numbers it says 0.
use Rattle.covers.proofs.SlotLaws.{past_numbers}
use Rattle.reasons.proofs.grounds.number_of.Goals as goal

pub returns-then-covers-at : goal.returns-then-covers-at
returns-then-covers-at c = past_numbers c.args.covers.now _ c.if-covers-at.true
