-- `recharge::order::sources` meets its contract. The invariant: the queue has the cells below i that wait for none; a turn puts cell i in or
-- passes it by, and two laws keep the invariant. No sum overflows, since the place past the queue's end has a count of at most 4,096 and no cell.
use Rattle.std.proofs.Common.{◌≡◌, arith, rules}
use Rattle.survey.specs.Order.{waits}
use Rattle.survey.proofs.GatherLaws.{gather_none, gather_fits, gather_skip, gather_put}
use Rattle.survey.proofs.order.sources.Goals.{then-order-i-lt-ONE, else-order-i-lt-ONE}
use Rattle.survey.proofs.order.sources.Goals as goal

pub loop-i-init : goal.loop-i-init
loop-i-init c = gather_none c.requires

pub overflow_add-order : goal.overflow_add-order
overflow_add-order c = record { fits = gather_fits c.loop-i.invariant (search rules) c.requires.most c.requires.few }

pub loop-i-preserved : goal.loop-i-preserved
loop-i-preserved c = let n = c.args.n in
    let counts = waits c.args.order.now in
    elim c.if-order-i-lt-ONE.branch [
      | then-order-i-lt-ONE w ↦ rw (w.order-is, w.tail-is) (gather_put c.loop-i.invariant (omega arith) c.requires.most w.if-order-i-lt-ONE.true)
      | else-order-i-lt-ONE w ↦ rw (w.order-is, w.tail-is) (gather_skip c.loop-i.invariant w.if-order-i-lt-ONE.false)
    ]

pub returns : goal.returns
returns c = let all : c.loop-i.i ≡ c.args.n = omega arith in rw all at c.loop-i.invariant
