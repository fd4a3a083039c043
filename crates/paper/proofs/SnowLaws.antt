-- Rule 3's melt: 1.5 mm per degree Celsius; nothing up to the freezing point; no less for a warmer maximum, and at most 50,000 units within
-- the temperature's limits. A quotient is the same with both its numbers twelve times as large, and no smaller for a larger dividend.
use mathlib.Core.Path.{◌≡◌, refl}
use mathlib.Core.Bool.{true, false≢true}
use Prim.Native.Nat.{◌*◌, ◌/◌, ◌≤◌, zero-le}
use native.Mathlib.Nat.{sub-eq-zero_of_le}
use native.Mathlib.Omega.{arith}
use lib.IntN.{ℤ, pos, negsuc}
use lib.Signed.{le_z}
use borrow.Author.Tests.{leb-true}
use Rattle.paper.specs.Limits.{most_temperature}
use Rattle.paper.specs.Snow.{freezing, above_freezing, meltable}

-- 1.5 mm are 150,000 hundred-thousandths of a millimetre, of which a unit of 0.0001 inch is 254; a degree Celsius is 18 tenths of a degree
-- Fahrenheit. Of the rate itself nothing is rounded.
pub melt_in_millimetres : (maximum : ℤ) → meltable maximum ≡ 150000 * above_freezing maximum / (18 * 254)
unfolding meltable
melt_in_millimetres maximum = omega arith

-- only if maximum > 320
pub melt_none : (maximum : ℤ) → le_z maximum (pos freezing) ≡ true → meltable maximum ≡ 0
unfolding meltable above_freezing
melt_none (pos m) e = rw (sub-eq-zero_of_le (leb-true m 320 e)) refl
melt_none (negsuc m) e = refl

-- no maximum within its limits melts more than the highest, 1,500, does
pub melt_rises : (a b : ℤ) → le_z a b ≡ true → meltable a ≤ meltable b
unfolding meltable above_freezing
melt_rises (pos a) (pos b) e = omega (arith, leb-true a b e)
melt_rises (pos a) (negsuc b) e = absurd (false≢true e)
melt_rises (negsuc a) b e = zero-le

pub melt_most : (maximum : ℤ) → le_z maximum most_temperature ≡ true → meltable maximum ≤ 50000
unfolding meltable above_freezing
melt_most (pos m) e = omega (arith, leb-true m 1500 e)
melt_most (negsuc m) e = zero-le
