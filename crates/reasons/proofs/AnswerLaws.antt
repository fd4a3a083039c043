-- One to one: an answer comes back from the paper's explanation, so that two answers that say the same are one.
use mathlib.Core.Path.{◌≡◌, refl, sym, ap, ◌∙◌}
use Prim.Native.Nat.{ℕ}
use Rattle.std.specs.Prelude.{Result, Ok, Err}
use Rattle.paper.specs.Reasons as paper
use Rattle.records.specs.Verdicts.{refusal_in}
use Rattle.records.specs.declared.verdicts.Refusal.{Refusal}
use Rattle.records.specs.declared.quantities.Depth.{Depth}
use Rattle.records.proofs.VerdictLaws.{refusal_forth}
use Rattle.reasons.specs.Whys.{reason_as, why_as}
use Rattle.reasons.specs.declared.whys.Why.{Why}
use Rattle.reasons.specs.declared.whys.Reason.{Reason}
use Rattle.reasons.specs.declared.whys.Reason.TheVariants as reasons

abbrev depth : ℕ → Depth
depth n = record { 0 = n }

reason_in : paper.Reason → Reason
reason_in paper.open_water = reasons.OpenWater
reason_in paper.under_snow = reasons.UnderSnow
reason_in paper.no_water = reasons.NoWater
reason_in paper.below_potential = reasons.BelowPotential
reason_in paper.room_for_all = reasons.RoomForAll
reason_in paper.above_largest = reasons.AboveLargest
reason_in paper.all_recharged = reasons.AllRecharged

why_in : paper.Explanation → Result Why Refusal
why_in (paper.because r a b) = Ok (record { reason = reason_in r; first = depth a; second = depth b })
why_in (paper.by_refusal why) = Err (refusal_in why)

reason_forth : (r : Reason) → reason_in (reason_as r) ≡ r
unfolding reason_in
reason_forth reasons.OpenWater = refl
reason_forth reasons.UnderSnow = refl
reason_forth reasons.NoWater = refl
reason_forth reasons.BelowPotential = refl
reason_forth reasons.RoomForAll = refl
reason_forth reasons.AboveLargest = refl
reason_forth reasons.AllRecharged = refl

why_forth : (w : Result Why Refusal) → why_in (why_as w) ≡ w
unfolding why_in
why_forth (Ok w) = ap Ok (λ k. record { reason = reason_forth w.reason k; first = w.first; second = w.second })
why_forth (Err why) = ap Err (refusal_forth why)

pub why_only : (q r : Result Why Refusal) → why_as q ≡ why_as r → q ≡ r
why_only q r e = sym (why_forth q) ∙ ap why_in e ∙ why_forth r
