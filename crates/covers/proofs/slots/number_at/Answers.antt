-- `slots::number_at` meets its contract: past the table's numbers it says 0.
use Rattle.covers.proofs.SlotLaws.{past_table, past_numbers}
use Rattle.covers.proofs.slots.number_at.Goals as goal

pub returns-then-covers-e : goal.returns-then-covers-e
returns-then-covers-e c = past_table c.args.covers.now c.args.slot c.args.k c.if-covers-e.true

pub returns-then-covers-at : goal.returns-then-covers-at
returns-then-covers-at c = past_numbers c.args.covers.now _ c.if-covers-at.true
