-- `lent::one_each` meets its contract: the loop goes on from each length that passes, as the paper's test does.
use Rattle.std.proofs.Common.{◌∙◌, sym}
use Rattle.records.proofs.LentLaws.{each_next, each_stop, each_end}
use Rattle.records.proofs.lent.one_each.Goals as goal

pub returns-then-length-n : goal.returns-then-length-n
returns-then-length-n c =
    sym (c.loop-length.invariant ∙ each_stop c.args.n c.args.lengths.now c.loop-length.length-index c.loop-length-test.true c.if-length-n.true)

pub loop-length-preserved : goal.loop-length-preserved
loop-length-preserved c =
    c.loop-length.invariant ∙ each_next c.args.n c.args.lengths.now c.loop-length.length-index c.loop-length-test.true c.if-length-n.false

pub returns : goal.returns
returns c = sym (c.loop-length.invariant ∙ each_end c.args.n c.args.lengths.now c.loop-length.length-index c.loop-length-test.false)
