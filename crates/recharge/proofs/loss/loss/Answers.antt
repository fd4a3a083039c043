-- `loss::loss` meets its contract: soil × L fits 64 bits, since L is at most 1,048,576 C; with no capacity the loss is 0.
use Rattle.std.proofs.Common.{sym, ◌<◌, arith, rules}
use native.Mathlib.Nat.{div-div-eq-div-mul}
use Rattle.paper.specs.Retention.{loss}
use Rattle.paper.proofs.RetentionLaws.{loss_none}
use Rattle.recharge.proofs.LossRoom.{share_fits}
use Rattle.recharge.proofs.loss.loss.Goals as goal

pub returns-then-most-eq0 : goal.returns-then-most-eq0
returns-then-most-eq0 c = rw c.if-most-eq0.true (sym (loss_none _ _))

pub overflow_mul-result : goal.overflow_mul-result
overflow_mul-result c =
    let some : 0 < c.args.capacity.0 = search rules in
    rw c.share_lost.ensures
    (omega (arith, share_fits c.args.capacity.0 c.args.soil.0 c.args.shortfall.0 some c.requires.0 c.requires.1))

pub returns : goal.returns
unfolding loss
returns c = rw (div-div-eq-div-mul, c.share_lost.ensures)
