-- The frost index. A floor is the greatest whole number not above its quotient, also below zero. By the sign of mean - 320 the day's step takes a floor
-- away or adds a quotient rounded up, so that an index within its limit stays within it: the largest step reaches 2,498,334.
use mathlib.Core.Path.{◌≡◌, refl, ap}
use mathlib.Core.Bool.{Bool, true, false, cond}
use Prim.Native.Nat.{ℕ, zero, suc, ◌+◌, ◌-◌, ◌*◌, ◌/◌, ◌≤◌, ◌<◌}
use native.Mathlib.Nat.{div-mul-le_self, lt-div-mul-add}
use native.Mathlib.Omega.{arith}
use lib.Dec.{leb}
use lib.IntN.{ℤ, pos, negsuc, neg_ℤ, suc_ℤ, ◌-ℤ◌, ◌*ℤ◌}
use lib.Signed.{mag, le_z, lt_z}
use borrow.Author.Tests.{leb-true, le-leb, lt-ltb, le-ltb}
use Rattle.theory.proofs.Cases.{by_cases, below_or_not}
use Rattle.paper.specs.Limits.{most_frost, least_temperature}
use Rattle.paper.specs.Setup.{Setpoints}
use Rattle.paper.specs.Snow.{freezing}
use Rattle.paper.specs.CurveNumber.{Condition, III}
use Rattle.paper.specs.Frost.{floor, or_zero, frost_after, not_dry, counted}

neg_pos : (n : ℕ) → 0 < n → neg_ℤ (pos n) ≡ negsuc (n - 1)
neg_pos zero h = absurd (omega arith)
neg_pos (suc n) h = ap negsuc (omega arith)

-- d × floor(z / d) is not above z, and d × (floor(z / d) + 1) is
pub floor_below : (z : ℤ) (d : ℕ) → 0 < d → le_z (pos d *ℤ floor z d) z ≡ true
unfolding floor
floor_below (pos a) d h = le-leb (d * (a / d)) a (omega (arith, div-mul-le_self a d))
floor_below (negsuc a) d h =
    let up : a < a / d * d + d = lt-div-mul-add h in
    rw (neg_pos (d * suc (a / d)) (omega arith)) (le-leb a (d * suc (a / d) - 1) (omega arith))

pub floor_above : (z : ℤ) (d : ℕ) → 0 < d → lt_z z (pos d *ℤ suc_ℤ (floor z d)) ≡ true
unfolding floor
floor_above (pos a) d h = lt-ltb a (d * suc (a / d)) (omega (arith, lt-div-mul-add {a = a} h))
floor_above (negsuc a) d h = go (a / d) (div-mul-le_self a d)
  where
    go : (q : ℕ) → q * d ≤ a → lt_z (negsuc a) (pos d *ℤ suc_ℤ (negsuc q)) ≡ true
    go zero low = refl
    go (suc q) low = rw (neg_pos (d * suc q) (omega arith)) (lt-ltb (d * suc q - 1) a (omega arith))

-- what is left after a natural number is taken away, 0 where that is negative
or_zero_sub : (a b : ℕ) → or_zero (pos a -ℤ pos b) ≡ a - b
unfolding or_zero
or_zero_sub a zero = omega arith
or_zero_sub a (suc b) =
    below_or_not a (suc b) (λ h. rw (lt-ltb a (suc b) h) (omega arith)) (λ h. rw (le-ltb a (suc b) h) refl)

-- the day's step by the sign of mean - 320: w tenths above freezing, or c + 1 below it
pub frost_thaws : (index w : ℕ) (mean : ℤ) → mean -ℤ pos freezing ≡ pos w → frost_after index mean ≡ 97 * index / 100 - 1000 * w / 18
unfolding frost_after floor
frost_thaws index w mean e = rw e (or_zero_sub (97 * index / 100) (1000 * w / 18))

pub frost_grows : (index c : ℕ) (mean : ℤ) → mean -ℤ pos freezing ≡ negsuc c
    → frost_after index mean ≡ 97 * index / 100 + (1000 * suc c + 17) / 18
unfolding frost_after floor or_zero
frost_grows index c mean e = rw (e, neg_pos (1000 * suc c) (omega arith)) (omega arith)

-- the coldest day is 1,320 tenths below freezing
coldest : (c : ℕ) (mean : ℤ) → le_z least_temperature mean ≡ true → mean -ℤ pos freezing ≡ negsuc c → c ≤ 1319
coldest c (pos m) low e =
    below_or_not m 320 (λ h. let same : 320 - suc m ≡ c = ap mag (rw (lt-ltb m 320 h) at e) in omega arith)
    (λ h. absurd (let below : pos (m - 320) ≡ negsuc c = rw (le-ltb m 320 h) at e in let z : ◌≡◌ {A = ℕ} 0 1 = cc in omega arith))
coldest c (negsuc m) low e = let same : suc (m + 319) ≡ c = ap mag e in omega (arith, leb-true m 999 low)

pub frost_kept : (index : ℕ) (mean : ℤ) → index ≤ most_frost → le_z least_temperature mean ≡ true → frost_after index mean ≤ 2498334
frost_kept index mean within low = go (mean -ℤ pos freezing) refl
  where
    go : (z : ℤ) → mean -ℤ pos freezing ≡ z → frost_after index mean ≤ 2498334
    go (pos w) e = rw (frost_thaws index w mean e) (omega arith)
    go (negsuc c) e = rw (frost_grows index c mean e) (omega (arith, coldest c mean low e))

-- with equal setpoints only III is left, and a day that is III without frost stays III
pub counted_equal : (s : Setpoints) (index : ℕ) (condition : Condition) → s.first ≡ s.second
    → counted s index condition ≡ cond (leb s.second index) III condition
unfolding counted
counted_equal s index condition e =
    rw e (by_cases (leb s.second index) (λ t. simp t) (λ f. simp f))

pub counted_wet : (s : Setpoints) (index : ℕ) → counted s index III ≡ III
unfolding counted not_dry
counted_wet s index = go (leb s.second index) (leb s.first index)
  where
    go : (second first : Bool) → cond second III (cond first III III) ≡ III
    go true first = refl
    go false true = refl
    go false false = refl
