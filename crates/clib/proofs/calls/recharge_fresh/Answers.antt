-- `calls::recharge_fresh` meets its contract: the library's answer is the paper's, whose past is that of a fresh state, and it is written as C's numbers.
use Rattle.std.proofs.Common.{ap, ◌∙◌}
use Rattle.paper.specs.State.{Past}
use Rattle.clib.specs.Numbers.{memory_list, last_number}
use Rattle.clib.proofs.HandedLaws.{told_near, none_returned, none_narrow, fresh_near, fresh_narrow, fresh_handed}
use Rattle.clib.proofs.calls.recharge_fresh.Goals as goal

pub keep-requires : goal.keep-requires
keep-requires c = fresh_narrow _ _ _ (rw c.in-Ok.is at c.fresh.ensures)

pub keep-requires-in-Err : goal.keep-requires-in-Err
keep-requires-in-Err c = rw c.none.ensures none_narrow

pub returns-in-Ok : goal.returns-in-Ok
returns-in-Ok c =
    let kept = c.keep.ensures in
    fresh_handed _ _ _ (rw c.in-Ok.is at c.fresh.ensures) c.setup_given-setup.ensures
    none_returned kept.memory_is kept.last_is kept.frost_is

pub returns-in-Err : goal.returns-in-Err
returns-in-Err c =
    let kept = c.keep-in-Err.ensures in
    let none = c.none.ensures in
    let fresh = rw c.in-Err.is at c.fresh.ensures in
    fresh_handed _ _ _ fresh c.setup_given-setup.ensures
    (c.refused_as.ensures ∙ told_near _ (fresh_near _ _ _ fresh)) (kept.memory_is ∙ ap (λ (p : Past). memory_list p.memory) none)
    (kept.last_is ∙ ap (λ (p : Past). last_number p.last) none) (kept.frost_is ∙ ap (λ (p : Past). p.frost) none)
