-- Frozen ground (M-106): one continuous frost index for the whole grid, in thousandths of a Celsius degree-day. Snow does not insulate.
use Rattle.std.specs.Prelude.{cond, ℕ, ◌*◌, ◌/◌, leb, ℤ, pos, negsuc, ◌-ℤ◌, ◌*ℤ◌}
use Rattle.paper.specs.Setup.{Setpoints}
use Rattle.paper.specs.Snow.{freezing}
use Rattle.paper.specs.CurveNumber.{Condition, I, II, III}

-- the greatest whole number not above z / d, also below zero
unfoldable pub floor : ℤ → ℕ → ℤ
floor (pos a) d = pos (a / d)
floor (negsuc a) d = negsuc (a / d)

-- 0 where the number is negative
unfoldable pub or_zero : ℤ → ℕ
or_zero (pos n) = n
or_zero (negsuc n) = 0

-- what an accepted day first sets the index to: floor(97 × index / 100) - floor(1,000 × (mean - 320) / 18), or 0 where that is negative
unfoldable pub frost_after : ℕ → ℤ → ℕ
frost_after index mean = or_zero (floor (pos (97 * index)) 100 -ℤ floor (pos 1000 *ℤ (mean -ℤ pos freezing)) 18)

-- condition I counts as II
unfoldable pub not_dry : Condition → Condition
not_dry I = II
not_dry II = II
not_dry III = III

-- the condition that a day counts as: from the second setpoint on III, from the first on I counts as II
unfoldable pub counted : Setpoints → ℕ → Condition → Condition
counted s index condition = cond (leb s.second index) III (cond (leb s.first index) (not_dry condition) condition)
