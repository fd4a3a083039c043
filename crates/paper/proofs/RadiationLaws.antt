-- An estimate never passes 20,000, and is never below zero: of readings within their limits no exact step of either formula passes the bound that is named
-- for it, and so no rounded one does, since binary64 holds the bound and rounding keeps the order. Turc's quotient is split at 30 degrees: up to there its
-- divisor is at least 15, from there on at least 45.
use mathlib.Core.Path.{◌≡◌, refl, sym, ap, ◌∙◌, subst}
use mathlib.Core.Bool.{Bool, true, false, ◌||◌, cond}
use Prim.Native.Nat.{ℕ, ◌+◌, ◌*◌, ◌/◌, ◌≤◌, ◌<◌, min, zero-le}
use native.Mathlib.Nat.{le_of_eq, le_trans, le-div_iff_mul-le, div-mul-le_self, le_of_mul-le-mul_right}
use native.Mathlib.Omega.{arith}
use lib.Dec.{T, leb, ltb, leb→le, lt→ltb, lit<}
use lib.Count.{count_trailing_zeros}
use lib.IntN.{pos}
use lib.Ieee.{Float, nan, inf, fin, binary64, up, down, span, climb, size, odd, units, round, neg, lt, eq, le, to_unsigned}
use lib.Ieee.Fits.{and_l, and_r, down_pos}
use lib.Ieee.Back.{round_whole}
use lib.Ieee.Positive.{num, den}
use Rattle.theory.proofs.Cases.{by_cases, and_left, and_right}
use Rattle.theory.proofs.RoundingLaws as rounding
use Rattle.theory.proofs.BoundLaws.{
  Held,
  Within,
  UpTo,
  From,
  mul_within,
  div_within,
  add_within,
  mul_up_to,
  div_up_to,
  add_up_to,
  add_from,
  sub_up_to,
  wider,
  not_below,
  above_zero,
  held_from,
  held_up_to,
  between_within,
  unsigned_up_to,
  from_up_to,
  above_from,
}
use Rattle.paper.specs.Limits.{most_potential}
use Rattle.paper.specs.Radiation.{
  ◌⊕◌,
  ◌⊗◌,
  ◌⊘◌,
  decimal,
  whole,
  Estimate,
  turc,
  jensen_haise,
  Weather,
  between,
  mean_fits,
  radiation_fits,
  humidity_fits,
  estimate_fits,
  weather_fits,
  humid,
  dryness,
  turc_of,
  jensen_haise_by,
  jensen_haise_of,
  millimetres,
  units_of,
  floor_of,
  potential_of,
  estimated,
  readings,
  estimate_units,
  estimated_of,
}

-- ---- the bounds that binary64 holds: whole numbers, and a few fractions
exact : (n : ℕ) → T (leb n 9007199254740992) → Held binary64 n 1
exact n t = record { positive = lit< tt; value = round_whole binary64 false n (leb→le n 9007199254740992 t) }

record Fractions : Type 0 where
  cool : Held binary64 12810 32768
  hot : Held binary64 25620 32768
  quotient : Held binary64 854 32768
  share : Held binary64 3 4
  dryness : Held binary64 7 4
  slope : Held binary64 1560 1024
  factor : Held binary64 1642 1024

held : Fractions
unfolding round size span climb units odd count_trailing_zeros
held =
    record {
      cool = record { positive = lit< tt; value = (refl, refl) };
      hot = record { positive = lit< tt; value = (refl, refl) };
      quotient = record { positive = lit< tt; value = (refl, refl) };
      share = record { positive = lit< tt; value = (refl, refl) };
      dryness = record { positive = lit< tt; value = (refl, refl) };
      slope = record { positive = lit< tt; value = (refl, refl) };
      factor = record { positive = lit< tt; value = (refl, refl) };
    }

-- ---- the constants
whole_up_to : (n : ℕ) → T (leb n 9007199254740992) → UpTo (whole n) n 1
unfolding whole decimal
whole_up_to n t = held_up_to (exact n t)

whole_from : (n : ℕ) → T (leb n 9007199254740992) → From (whole n) n 1
unfolding whole decimal
whole_from n t = held_from (exact n t)

zero_is : whole 0 ≡ fin false 0 (pos 0)
unfolding whole decimal round size span climb units odd count_trailing_zeros
zero_is = refl

thirteen : UpTo (decimal 13 1000) 427 32768
unfolding decimal round size span climb units odd count_trailing_zeros
thirteen = record { within = record { positive = lit< tt; size = leb→le _ _ tt }; nonneg = tt }

twenty_five : Within (decimal 25 1000) 26 1024
unfolding decimal round size span climb units odd count_trailing_zeros
twenty_five = record { positive = lit< tt; size = leb→le _ _ tt }

eight : Within (decimal 8 100) 82 1024
unfolding decimal round size span climb units odd count_trailing_zeros
eight = record { positive = lit< tt; size = leb→le _ _ tt }

-- ---- the readings
low_end : (low high x : Float) → between low high x ≡ true → T (le low x)
unfolding between
low_end low high x e = and_l (le low x) (le x high) (subst T (sym e) tt)

high_end : (low high x : Float) → between low high x ≡ true → T (le x high)
unfolding between
high_end low high x e = and_r (le low x) (le x high) (subst T (sym e) tt)

from_zero : (n : ℕ) → T (leb n 9007199254740992) → (x : Float) → between (whole 0) (whole n) x ≡ true → UpTo x n 1
unfolding whole decimal
from_zero n t x e = unsigned_up_to (exact n t) (subst (λ (z : Float). T (le z x)) zero_is (low_end (whole 0) (whole n) x e)) (high_end (whole 0) (whole n) x e)

mean_within : (t : Float) → mean_fits t ≡ true → Within t 60 1
unfolding mean_fits whole decimal
mean_within t e = between_within (exact 60 tt) (low_end (neg (whole 60)) (whole 60) t e) (high_end (neg (whole 60)) (whole 60) t e)

radiation_up_to : (r : Float) → radiation_fits r ≡ true → UpTo r 1000 1
unfolding radiation_fits
radiation_up_to r e = from_zero 1000 tt r e

humidity_up_to : (h : Float) → humidity_fits h ≡ true → UpTo h 100 1
unfolding humidity_fits
humidity_up_to h e = from_zero 100 tt h e

-- ---- Turc for a mean above zero
module _ (t : Float) (fits : mean_fits t ≡ true) (warm : le t (whole 0) ≡ false) where
  above : From t 0 1
  above = above_zero (mean_within t fits) (ap (le t) (sym zero_is) ∙ warm)

  mean_up_to : UpTo t 60 1
  unfolding mean_fits whole decimal
  mean_up_to = from_up_to (exact 60 tt) above (high_end (neg (whole 60)) (whole 60) t fits)

  divisor : UpTo (t ⊕ whole 15) 75 1
  divisor = add_up_to (exact 75 tt) tt mean_up_to (whole_up_to 15 tt)

  quotient : UpTo ((decimal 13 1000 ⊗ t) ⊘ (t ⊕ whole 15)) 854 32768
  unfolding whole decimal
  quotient =
      by_cases (le t (whole 30))
      (λ cool.
      div_up_to held.quotient tt tt (mul_up_to held.cool tt thirteen (from_up_to (exact 30 tt) above (subst T (sym cool) tt)))
      (add_from (exact 15 tt) tt above (whole_from 15 tt) 75 1 divisor.within))
      (λ hot.
      div_up_to held.quotient tt tt (mul_up_to held.hot tt thirteen mean_up_to)
      (add_from (exact 45 tt) tt (above_from (exact 30 tt) above hot) (whole_from 15 tt) 75 1 divisor.within))

  humid_up_to : (r : Float) → radiation_fits r ≡ true → UpTo (humid t r) 28 1
  unfolding humid
  humid_up_to r e = mul_up_to (exact 28 tt) tt quotient (add_up_to (exact 1050 tt) tt (radiation_up_to r e) (whole_up_to 50 tt))

-- for a humidity below 50
dryness_up_to : (h : Float) → humidity_fits h ≡ true → lt h (whole 50) ≡ true → UpTo (dryness h) 7 4
unfolding dryness le
dryness_up_to h e dry =
    add_up_to held.dryness tt (whole_up_to 1 tt)
    (div_up_to held.share tt tt
    (sub_up_to (exact 50 tt) (whole_up_to 50 tt).within (whole_from 50 tt) (humidity_up_to h e) (subst (λ (b : Bool). T (b || eq h (whole 50))) (sym dry) tt))
    (whole_from 70 tt))

-- by the two cases of a test
chosen : (b : Bool) (x y : Float) (a c : ℕ) → (b ≡ true → UpTo x a c) → (b ≡ false → UpTo y a c) → UpTo (cond b x y) a c
chosen true x y a c p q = p refl
chosen false x y a c p q = q refl

nothing : UpTo (whole 0) 49 1
nothing = wider tt tt (whole_up_to 0 tt)

turc_up_to : (t r h : Float) → mean_fits t ≡ true → radiation_fits r ≡ true → humidity_fits h ≡ true → UpTo (turc_of t r h) 49 1
unfolding turc_of
turc_up_to t r h mean radiation humidity =
    chosen (le t (whole 0)) (whole 0) _ 49 1 (λ cold. nothing)
    (λ warm.
    let moist = humid_up_to t mean warm r radiation in
    chosen (lt h (whole 50)) _ _ 49 1 (λ dry. mul_up_to (exact 49 tt) tt moist (dryness_up_to h humidity dry)) (λ wet. wider tt tt moist))

-- ---- Jensen-Haise, whose factor can be below zero
jensen_haise_up_to : (t r : Float) → mean_fits t ≡ true → radiation_fits r ≡ true → UpTo (jensen_haise_of t r) 49 1
unfolding jensen_haise_of jensen_haise_by
jensen_haise_up_to t r mean radiation =
    let factor = add_within held.factor tt (mul_within held.slope tt twenty_five (mean_within t mean)) eight in
    let by = mul_within (exact 49 tt) tt (div_within (exact 17 tt) tt tt (radiation_up_to r radiation).within (whole_from 59 tt)) factor in
    chosen (lt (jensen_haise_by t r) (whole 0)) (whole 0) (jensen_haise_by t r) 49 1 (λ below. nothing)
    (λ above. not_below by (ap (lt (jensen_haise_by t r)) (sym zero_is) ∙ above))

-- ---- either, in millimetres and in units
millimetres_up_to : (w : Weather) → weather_fits w ≡ true → UpTo (millimetres w.mean w.estimate) 49 1
unfolding weather_fits
millimetres_up_to w e =
    by w.estimate (and_left (mean_fits w.mean) (estimate_fits w.estimate) e) (and_right (mean_fits w.mean) (estimate_fits w.estimate) e)
  where
    by : (estimate : Estimate) → mean_fits w.mean ≡ true → estimate_fits estimate ≡ true → UpTo (millimetres w.mean estimate) 49 1
    by (turc r h) t f =
        unfold millimetres estimate_fits in turc_up_to w.mean r h t (and_left (radiation_fits r) (humidity_fits h) f) (and_right (radiation_fits r) (humidity_fits h) f)
    by (jensen_haise r) t f = unfold millimetres estimate_fits in jensen_haise_up_to w.mean r t f

units_up_to : (w : Weather) → weather_fits w ≡ true → UpTo (units_of (millimetres w.mean w.estimate)) 20000 1
unfolding units_of
units_up_to w e = div_up_to (exact 20000 tt) tt tt (mul_up_to (exact 4900000 tt) tt (millimetres_up_to w e) (whole_up_to 100000 tt)) (whole_from 254 tt)

-- ---- the greatest whole number not above
floor_reaches : (x : Float) (n : ℕ) → rounding.Nonneg x → n * den x ≤ num x → n ≤ floor_of x
unfolding floor_of
floor_reaches nan n X h = absurd X
floor_reaches (inf s) n X h = absurd X
floor_reaches (fin true m e) n X h =
    le_of_mul-le-mul_right (le_trans h (le_trans (le_of_eq (ap (λ (z : ℕ). z * up e) X)) (omega arith))) (down_pos e)
floor_reaches (fin false m e) n X h = (le-div_iff_mul-le (down_pos e)).1 h

floor_not_above : (x : Float) → floor_of x * den x ≤ num x
unfolding floor_of
floor_not_above nan = zero-le
floor_not_above (inf s) = zero-le
floor_not_above (fin true m e) = omega arith
floor_not_above (fin false m e) = div-mul-le_self (m * up e) (down e)

floor_most : (x : Float) (most : ℕ) → rounding.Within x most 1 → floor_of x ≤ most
unfolding floor_of
floor_most nan most w = absurd w
floor_most (inf s) most w = absurd w
floor_most (fin true m e) most w = zero-le
floor_most (fin false m e) most w = le_of_mul-le-mul_right (le_trans (div-mul-le_self (m * up e) (down e)) (le_trans (omega arith) w)) (down_pos e)

-- x is finite and not below zero, and n the greatest whole number not above it; num x / den x is its size
pub record Greatest (x : Float) (n : ℕ) : Type 0 where
  pub nonneg : rounding.Nonneg x
  pub not_above : n * den x ≤ num x
  pub most : (k : ℕ) → k * den x ≤ num x → k ≤ n

pub estimate_greatest : (w : Weather) → weather_fits w ≡ true → Greatest (units_of (millimetres w.mean w.estimate)) (potential_of w)
unfolding potential_of
estimate_greatest w e =
    let x = units_of (millimetres w.mean w.estimate) in
    let up_to_lem = units_up_to w e in
    record { nonneg = up_to_lem.nonneg; not_above = floor_not_above x; most = λ k. floor_reaches x k up_to_lem.nonneg }

-- so it is what is left of the value without its fraction
floor_cut : (x : Float) → rounding.Nonneg x → rounding.Within x 20000 1 → to_unsigned 64 x ≡ floor_of x
unfolding to_unsigned floor_of
floor_cut nan X w = absurd X
floor_cut (inf s) X w = absurd X
floor_cut (fin true m e) X w = refl
floor_cut (fin false m e) X w = least (m * up e / down e) (floor_most (fin false m e) 20000 w)
  where
    least : (n : ℕ) → n ≤ 20000 → min n 18446744073709551615 ≡ n
    least n h = omega arith

-- above -1 and below 2 ^ 64
above_minus_one : (x : Float) → rounding.Nonneg x → T (lt (fin true 1 (pos 0)) x)
unfolding lt
above_minus_one nan X = absurd X
above_minus_one (inf s) X = absurd X
above_minus_one (fin true m e) X =
    subst (λ (m : ℕ). T (ltb (m * up e * 1) (1 * down e))) (sym X) (lt→ltb (0 * up e * 1) (1 * down e) (let d : 0 < down e = down_pos e in omega arith))
above_minus_one (fin false m e) X = lt→ltb 0 (1 * down e + m * up e * 1) (let d : 0 < down e = down_pos e in omega arith)

below_64_bits : (x : Float) → rounding.Nonneg x → rounding.Within x 20000 1 → T (lt x (fin false 1 (pos 64)))
unfolding lt
below_64_bits nan X w = absurd X
below_64_bits (inf s) X w = absurd X
below_64_bits (fin true m e) X w = lt→ltb 0 (m * up e * 1 + 18446744073709551616 * down e) (let d : 0 < down e = down_pos e in omega arith)
below_64_bits (fin false m e) X w = lt→ltb (m * up e * 1) (18446744073709551616 * down e) (let d : 0 < down e = down_pos e in omega (arith, w))

-- an estimate's units: what a program that drops the fraction into 64 bits must know of them
pub record Cut (x : Float) : Type 0 where
  pub above : T (lt (fin true 1 (pos 0)) x)
  pub below : T (lt x (fin false 1 (pos 64)))
  pub floor : to_unsigned 64 x ≡ floor_of x

pub estimate_cut : (w : Weather) → weather_fits w ≡ true → Cut (units_of (millimetres w.mean w.estimate))
estimate_cut w e =
    let x = units_of (millimetres w.mean w.estimate) in
    let p = units_up_to w e in
    record { above = above_minus_one x p.nonneg; below = below_64_bits x p.nonneg p.within.size; floor = floor_cut x p.nonneg p.within.size }

-- refused exactly where a reading is outside its limits or is not a number; and refusal or not, never past 20,000
module _ (w : Weather) where
  pub estimated_fitting : weather_fits w ≡ true → estimated_of w ≡ estimated (potential_of w)
  unfolding estimated_of
  estimated_fitting e = rw e refl

  pub estimated_outside : weather_fits w ≡ false → estimated_of w ≡ readings
  unfolding estimated_of
  estimated_outside e = rw e refl

  pub never_passes : estimate_units (estimated_of w) ≤ most_potential
  unfolding estimate_units potential_of
  never_passes =
      by_cases (weather_fits w)
      (λ e. rw (estimated_fitting e) (floor_most (units_of (millimetres w.mean w.estimate)) 20000 (units_up_to w e).within.size))
      (λ e. rw (estimated_outside e) zero-le)
