-- `whys::recharge_why` meets its contract: the library is handed what C lent, its explanation is written as C's numbers, and a cell's number has 32 bits, so that
-- its refusal fits.
use Rattle.std.proofs.Common.{[], ◌∷◌, sym, ap, subst, ◌∙◌, ◌<◌, arith}
use Rattle.paper.specs.State.{Past}
use Rattle.paper.specs.Reasons.{Explanation}
use Rattle.paper.specs.Refusals.{verdict_place}
use Rattle.reasons.specs.Whys.{why_number, first_depth, second_depth, why_verdict}
use Rattle.clib.specs.Handed.{state_from}
use Rattle.clib.specs.Narrow.{narrow}
use Rattle.clib.specs.Whys.{explained, reason_list, reason_given}
use Rattle.clib.proofs.HandedLaws.{told_near, none_returned}
use Rattle.clib.proofs.WhyLaws.{why_near, why_handed}
use Rattle.clib.proofs.whys.recharge_why.Goals as goal

pub returns-in-Ok : goal.returns-in-Ok
unfolding state_from reason_given why_verdict
returns-in-Ok c =
    (λ k. explained (none_returned k) (c.told.ensures k))
    ∙ why_handed _ _ _ _ _ _ _ _ c.setup_given-setup.ensures
    (ap (λ (p : Past). record { soil = c.args.soil.now; snow = c.args.snow.now; past = p }) c.past_from-past.ensures.0)
    c.record_of.ensures.0 c.index_of.ensures _ (rw c.in-Ok.is at c.why-why.ensures)

pub returns-in-Err : goal.returns-in-Err
unfolding state_from reason_given why_verdict reason_list why_number first_depth second_depth
returns-in-Err c =
    let small : c.args.cell < narrow = omega (arith, c.ranges.cell) in
    let why = rw c.in-Err.is at c.why-why.ensures in
    let near = subst (λ (e : Explanation). verdict_place (why_verdict e) < narrow) (sym why) (why_near _ _ _ _ (rw c.index_of.ensures small)) in
    ap (λ n. explained n (0 ∷ 0 ∷ 0 ∷ [])) (c.refused_as.ensures ∙ told_near _ near)
    ∙ why_handed _ _ _ _ _ _ _ _ c.setup_given-setup.ensures
    (ap (λ (p : Past). record { soil = c.args.soil.now; snow = c.args.snow.now; past = p }) c.past_from-past.ensures.0)
    c.record_of.ensures.0 c.index_of.ensures _ why
