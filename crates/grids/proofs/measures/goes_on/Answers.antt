-- `measures::goes_on` meets its contract: from the loop's place on it goes on exactly if it does from the first.
use Rattle.std.proofs.Common.{sym, ap, ◌∙◌, ◌+◌}
use Rattle.grids.specs.Measures.{is_digits}
use Rattle.grids.proofs.MeasureLaws.{rest_all, on_point, on_next, on_stop, on_end}
use Rattle.grids.proofs.measures.goes_on.Goals as goal

pub returns-then-b-eq46 : goal.returns-then-b-eq46
returns-then-b-eq46 c =
    c.some_digits.ensures
    ∙ ap is_digits (rest_all c.args.word.now (c.loop-i.i + 1))
    ∙ sym (c.loop-i.invariant ∙ on_point c.args.word.now c.loop-i.i c.loop-i-test.true c.if-b-eq46.true)

pub returns-then-not-is_digit : goal.returns-then-not-is_digit
returns-then-not-is_digit c =
    let no = sym c.is_digit.ensures ∙ c.if-not-is_digit.true in
    sym (c.loop-i.invariant ∙ on_stop c.args.word.now c.loop-i.i c.loop-i-test.true c.if-b-eq46.false no)

pub loop-i-preserved : goal.loop-i-preserved
loop-i-preserved c =
    let yes = sym c.is_digit.ensures ∙ c.if-not-is_digit.false in
    c.loop-i.invariant ∙ on_next c.args.word.now c.loop-i.i c.loop-i-test.true c.if-b-eq46.false yes

pub returns : goal.returns
returns c = sym (c.loop-i.invariant ∙ on_end c.args.word.now c.loop-i.i c.loop-i-test.false)
