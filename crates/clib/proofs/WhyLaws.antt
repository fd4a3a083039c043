-- The place of a refusal to explain: of one of the day's tests at most 4,096, and of a cell outside the grid its number, which fits 32 bits. So it fits what a call returns.
use mathlib.Core.Path.{◌≡◌, refl, ap, ◌∙◌}
use Prim.Native.Nat.{ℕ, ◌<◌}
use lib.Dec.{ltb}
use Rattle.theory.proofs.Cases.{by_cases}
use Rattle.paper.specs.Limits.{within}
use Rattle.paper.specs.Setup.{Setup, cells}
use Rattle.paper.specs.State.{State, Day}
use Rattle.paper.specs.Refusals.{Verdict, accepted, refused, place_of, verdict_number, verdict_place, verdict}
use Rattle.paper.specs.Reasons.{Facts, Reason, open_water, under_snow, no_water, below_potential, room_for_all, above_largest, all_recharged, reason_of, facts_at, Explanation, with_depths, explained, explained_as, why_tests, why_of}
use Rattle.reasons.specs.Whys.{why_verdict}
use Rattle.reasons.specs.Asked.{asked_of}
use Rattle.reasons.proofs.AskingLaws.{asked_inside, asked_early, asked_outside, tests_asked}
use Rattle.clib.specs.Narrow.{narrow}
use Rattle.clib.specs.Whys.{reason_given}
use Rattle.clib.proofs.PlaceLaws.{day_near, near_fits}

asked_near : (n cell : ℕ) (v : Verdict) → cell < narrow → verdict_place v < narrow → verdict_place (asked_of n cell v) < narrow
unfolding verdict_place place_of
asked_near n cell v small near =
    by_cases (ltb cell n) (λ there. rw (asked_inside n cell v there) near)
    (λ out. by_cases (within 1 4 (verdict_number v)) (λ early. rw (asked_early n cell v early) near) (λ late. rw (asked_outside n cell v out late) small))

-- a reason is no refusal
no_refusal : (f : Facts) (r : Reason) → why_verdict (with_depths f r) ≡ accepted
unfolding why_verdict with_depths
no_refusal f open_water = refl
no_refusal f under_snow = refl
no_refusal f no_water = refl
no_refusal f below_potential = refl
no_refusal f room_for_all = refl
no_refusal f above_largest = refl
no_refusal f all_recharged = refl

verdict_back : (f : Facts) (v : Verdict) → why_verdict (explained_as f v) ≡ v
unfolding explained_as explained
verdict_back f accepted = no_refusal f (reason_of f)
verdict_back f (refused why) = unfold why_verdict in refl

pub why_near : (s : Setup) (st : State) (d : Day) (i : ℕ) → i < narrow → verdict_place (why_verdict (why_of s st d i)) < narrow
unfolding why_of
why_near s st d i small =
    rw (verdict_back (facts_at s st d i) (verdict (why_tests s st d i)) ∙ tests_asked s st d i)
    (asked_near (cells s) i _ small (near_fits (day_near s _ st d)))

-- what the library is handed is what C handed over
pub why_handed : (s t : Setup) (st u : State) (d e : Day) (i j : ℕ) → t ≡ s → u ≡ st → e ≡ d → j ≡ i → (why : Explanation) → why ≡ why_of t u e j
    → reason_given why ≡ reason_given (why_of s st d i)
why_handed s t st u d e i j same held day cell why is = ap reason_given (is ∙ (λ k. why_of (same k) (held k) (day k) (cell k)))
