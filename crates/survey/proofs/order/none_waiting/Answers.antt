-- `order::none_waiting` meets its contract: the entries passed so far are 0.
use Rattle.std.proofs.Common.{◌≡◌, sym, ap, ◌∙◌, ℕ, add-one, arith, length, rules}
use Rattle.theory.proofs.ListLaws.{over_none, over_more, over_length, over_room}
use Rattle.survey.proofs.order.none_waiting.Goals as goal

pub loop-i-init : goal.loop-i-init
loop-i-init c = sym (over_none {A = ℕ} _ _)

pub bounds-order-i : goal.bounds-order-i
bounds-order-i c = over_room _ _ _ _ c.loop-i.invariant (omega arith)

pub loop-i-preserved : goal.loop-i-preserved
loop-i-preserved c = rw (add-one, c.loop-i.invariant) (over_more {A = ℕ} _ _ _ (omega arith))

pub shape_of-order : goal.shape_of-order
shape_of-order c = ap length c.loop-i.invariant ∙ over_length {A = ℕ} _ _ _ (omega arith)

pub returns : goal.returns
returns c = let all : c.loop-i.i ≡ c.args.n = omega arith in rw all at c.loop-i.invariant
