-- `periods::clear` meets its contract: the sums passed so far are 0.
use Rattle.std.proofs.Common.{◌≡◌, refl, sym, ap, ◌∙◌, ℕ, add-one, arith, length}
use Rattle.theory.proofs.ListLaws.{over_none, over_more, over_all, over_length}
use Rattle.recharge.proofs.periods.clear.Goals.{At-loop-i}
use Rattle.recharge.proofs.periods.clear.Goals as goal

pub loop-i-init : goal.loop-i-init
loop-i-init c = sym (over_none {A = ℕ} _ _)

pub loop-i-preserved : goal.loop-i-preserved
loop-i-preserved c = rw (add-one, c.loop-i.invariant) (over_more {A = ℕ} _ _ _ (omega (arith, c.loop-i-test.true)))

pub returns : goal.returns
returns c =
    let all : c.loop-i.i ≡ length c.args.sums.now = omega (arith, c.loop-i-test.false, c.loop-i.auto.i-end) in
    c.loop-i.invariant ∙ rw all (over_all {A = ℕ} _ (λ i. 0) c.args.sums.now refl)
