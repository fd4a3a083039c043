-- `measures::all_digits` meets its contract: those from the loop's place on are digits exactly if all are.
use Rattle.std.proofs.Common.{sym, ◌∙◌}
use Rattle.grids.proofs.MeasureLaws.{all_next, all_stop, all_end}
use Rattle.grids.proofs.measures.all_digits.Goals as goal

pub returns-then-not-is_digit : goal.returns-then-not-is_digit
returns-then-not-is_digit c =
    let no = sym c.is_digit.ensures ∙ c.if-not-is_digit.true in
    sym (c.loop-b.invariant ∙ all_stop c.args.word.now c.loop-b.b-index c.loop-b-test.true no)

pub loop-b-preserved : goal.loop-b-preserved
loop-b-preserved c =
    let yes = sym c.is_digit.ensures ∙ c.if-not-is_digit.false in
    c.loop-b.invariant ∙ all_next c.args.word.now c.loop-b.b-index c.loop-b-test.true yes

pub returns : goal.returns
returns c = sym (c.loop-b.invariant ∙ all_end c.args.word.now c.loop-b.b-index c.loop-b-test.false)
