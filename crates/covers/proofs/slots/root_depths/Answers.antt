-- `slots::root_depths` meets its contract: the slots of the entries before the loop's have their numbers, and past those of which the table has a number all are 0.
use Rattle.std.proofs.Common.{◌≡◌, sym, ◌∙◌, ◌+◌, ◌*◌, ◌≤◌, arith, replicate, ap}
use Rattle.theory.specs.Lists.{made_over}
use Rattle.theory.proofs.ListLaws.{over_none}
use Rattle.covers.specs.Slots.{group_number_at}
use Rattle.covers.proofs.SlotLaws.{roots_four, roots_whole}
use Rattle.covers.proofs.slots.root_depths.Goals as goal

pub loop-entry-init : goal.loop-entry-init
loop-entry-init c = sym (over_none _ _)

pub loop-entry-preserved : goal.loop-entry-preserved
loop-entry-preserved c =
    let l = c.loop-entry in
    let room : 4 * l.entry + 4 ≤ 256 = omega (arith, c.min-entry-end.ensures, c.loop-entry-test.true) in
    let next : 4 * l.entry + 4 ≡ 4 * (l.entry + 1) = omega arith in
    roots_four _ _ (4 * l.entry) c.is_open-lake.ensures (omega arith) room _ _ _ _ _ l.invariant c.soil_number.ensures
    c.soil_number-in-loop-entry.ensures c.soil_number-in-loop-entry-2.ensures c.soil_number-in-loop-entry-3.ensures
    ∙ ap (λ n. made_over n (group_number_at c.args.covers.now 11) (replicate 256 0)) next

pub returns : goal.returns
returns c =
    let l = c.loop-entry in
    let past = c.loop-entry-test.false in
    let near = l.auto.entry-end in
    l.invariant ∙ roots_whole _ _ (omega (arith, c.min-entry-end.ensures, near)) (omega arith) (omega (arith, c.min-entry-end.ensures, past, near))
