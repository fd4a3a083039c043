-- The code's answer as the paper's explanation, and what an explanation says in numbers.
use Rattle.std.specs.Prelude.{ℕ, Result, Ok, Err}
use Rattle.paper.specs.Refusals.{Verdict, accepted, refused}
use Rattle.paper.specs.Reasons as paper
use Rattle.records.specs.Verdicts.{refusal_as}
use Rattle.records.specs.declared.verdicts.Refusal.{Refusal}
use Rattle.reasons.specs.declared.whys.Why.{Why}
use Rattle.reasons.specs.declared.whys.Reason.{Reason}
use Rattle.reasons.specs.declared.whys.Reason.TheVariants as reasons

abbrev pub reason_as : Reason → paper.Reason
reason_as reasons.OpenWater = paper.open_water
reason_as reasons.UnderSnow = paper.under_snow
reason_as reasons.NoWater = paper.no_water
reason_as reasons.BelowPotential = paper.below_potential
reason_as reasons.RoomForAll = paper.room_for_all
reason_as reasons.AboveLargest = paper.above_largest
reason_as reasons.AllRecharged = paper.all_recharged

abbrev pub because_as : Why → paper.Explanation
because_as w = paper.because (reason_as w.reason) w.first.0 w.second.0

abbrev pub why_as : Result Why Refusal → paper.Explanation
why_as (Ok w) = because_as w
why_as (Err why) = paper.by_refusal (refusal_as why)

-- 1 to 7, and 0 for a refusal
unfoldable pub why_number : paper.Explanation → ℕ
why_number (paper.because r a b) = paper.reason_number r
why_number (paper.by_refusal why) = 0

-- its two depths, 0 for a refusal
unfoldable pub first_depth : paper.Explanation → ℕ
first_depth (paper.because r a b) = a
first_depth (paper.by_refusal why) = 0

unfoldable pub second_depth : paper.Explanation → ℕ
second_depth (paper.because r a b) = b
second_depth (paper.by_refusal why) = 0

unfoldable pub why_verdict : paper.Explanation → Verdict
why_verdict (paper.because r a b) = accepted
why_verdict (paper.by_refusal why) = refused why
