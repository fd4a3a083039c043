-- `asking::copied` meets its contract: as far as the loop has come the front of the copy is the store.
use Rattle.std.proofs.Common.{ℕ, ◌≡◌, refl, sym, ◌∙◌, arith, rules, length, get_or, length-set}
use lib.ListN.{length-replicate}
use Rattle.theory.proofs.ListLaws.{over_none, wrote}
use Rattle.reasons.proofs.AskingLaws.{copied_all}
use Rattle.reasons.proofs.asking.copied.Goals as goal

pub loop-i-init : goal.loop-i-init
loop-i-init c = sym (over_none _ _)

pub bounds-copy-i : goal.bounds-copy-i
bounds-copy-i c = omega (arith, c.requires, c.loop-i-test.true)

pub loop-i-preserved : goal.loop-i-preserved
loop-i-preserved c = wrote _ _ _ _ _ c.loop-i.invariant refl (rw (length-replicate {A = ℕ} 4096 0) (omega (arith, c.requires, c.loop-i-test.true)))

pub returns : goal.returns
returns c =
    let end : c.loop-i.i ≡ length c.args.store.now = omega (arith, c.loop-i-test.false, c.loop-i.auto.i-end) in
    copied_all _ _ c.requires (rw end at c.loop-i.invariant)
