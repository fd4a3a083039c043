-- `fields::column` meets its contract: the front of the array is filled by the rule as far as the loop has come, to the last cell that it holds.
use Rattle.std.proofs.Common.{sym, arith, rules}
use Rattle.theory.proofs.ListLaws.{over_none, wrote}
use Rattle.text.proofs.FieldLaws.{all_held}
use Rattle.text.proofs.fields.column.Goals as goal

pub loop-i-init : goal.loop-i-init
loop-i-init c = sym (over_none _ _)

pub loop-i-preserved : goal.loop-i-preserved
loop-i-preserved c =
    wrote _ _ _ _ _ c.loop-i.invariant (rw c.cells_from-from.ensures.0 at c.number_at.ensures) (search rules)

pub returns : goal.returns
returns c = all_held _ _ _ _ c.loop-i.invariant (omega (arith, c.loop-i-test.false, c.loop-i.auto.i-end))
