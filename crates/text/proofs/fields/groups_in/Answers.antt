-- `fields::groups_in` meets its contract: the front of the array is filled by the rule as far as the loop has come, to the last cell that it holds.
use Rattle.std.proofs.Common.{refl, sym, ◌∙◌, arith, rules}
use Rattle.theory.proofs.ListLaws.{over_none, wrote}
use Rattle.text.specs.Program.{setup}
use Rattle.text.proofs.FieldLaws.{all_held}
use Rattle.text.proofs.fields.groups_in.Goals as goal

pub loop-i-preserved : goal.loop-i-preserved
loop-i-preserved c =
    let start = c.cells_from-from.ensures.0 in
    wrote _ _ _ _ _ c.loop-i.invariant (c.group.ensures ∙ rw (c.number_at-direction.ensures, c.number_at-given.ensures, start) refl) (search rules)

pub returns : goal.returns
unfolding setup
returns c = all_held _ _ _ _ c.loop-i.invariant (omega (arith, c.loop-i-test.false, c.loop-i.auto.i-end))

pub loop-i-init : goal.loop-i-init
loop-i-init c = sym (over_none _ _)
