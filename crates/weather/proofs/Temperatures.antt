-- Rule 3's test on the machine's signed numbers: measured temperatures are small enough that every step fits 32 bits, and so reads back as itself.
-- A size `mag z` is n for n and for -(n + 1); a sum, a negation and a triple each make it larger by a little more than the paper's numbers would.
use mathlib.Core.Bool.{true}
use mathlib.Core.Path.{◌≡◌, ap, ◌∙◌}
use Prim.Native.Nat.{ℕ, zero, suc, ◌+◌, ◌*◌, ◌≤◌, ◌<◌}
use native.Mathlib.Omega.{arith}
use lib.Dec.{leb}
use lib.IntN.{ℤ, pos, negsuc, neg_ℤ, sub_ℕ, ◌+ℤ◌, ◌-ℤ◌, ◌*ℤ◌}
use lib.Signed.{mag, le_z}
use mir.Syntax.{w32}
use mir.Val.{SFits, to_z, of_z}
use mir.Facts.{to_z-of_z}
use borrow.Author.Tests.{leb-true, lt-ltb, le-ltb}
use Rattle.theory.proofs.Cases.{and_left, below_or_not}
use Rattle.paper.specs.Limits.{withinℤ, least_temperature, most_temperature}
use Rattle.paper.specs.Snow.{falls_as_snow}

mag_sub : (a b : ℕ) → mag (sub_ℕ a b) ≤ a + b
mag_sub a b = below_or_not a b (λ h. rw (lt-ltb a b h) (omega arith)) (λ h. rw (le-ltb a b h) (omega arith))

mag_add : (a b : ℤ) → mag (a +ℤ b) ≤ mag a + mag b + 1
mag_add (pos a) (pos b) = omega arith
mag_add (pos a) (negsuc b) = omega (arith, mag_sub a (suc b))
mag_add (negsuc a) (pos b) = omega (arith, mag_sub b (suc a))
mag_add (negsuc a) (negsuc b) = omega arith

mag_neg : (a : ℤ) → mag (neg_ℤ a) ≤ mag a + 1
mag_neg (pos zero) = omega arith
mag_neg (pos (suc n)) = omega arith
mag_neg (negsuc n) = omega arith

mag_minus : (a b : ℤ) → mag (a -ℤ b) ≤ mag a + mag b + 2
mag_minus a b = omega (arith, mag_add a (neg_ℤ b), mag_neg b)

mag_triple : (a : ℤ) → mag (pos 3 *ℤ a) ≤ 3 * mag a + 4
mag_triple (pos a) = omega arith
mag_triple (negsuc a) = omega (arith, mag_neg (pos (3 * suc a)))

fits : (z : ℤ) → mag z < 10000 → SFits w32 z
fits z h = record { sfits = omega arith }

-- what a step reads of a number that a step before it wrote
abbrev pub read : ℤ → ℤ
read z = to_z w32 (of_z w32 z)

same : (z : ℤ) → mag z < 10000 → read z ≡ z
same z h = to_z-of_z (fits z h)

abbrev Measured : ℤ → Type 0
Measured z = withinℤ least_temperature most_temperature z ≡ true

small : (z : ℤ) → Measured z → mag z ≤ 1500
small (pos n) h = leb-true n 1500 h
small (negsuc n) h = omega (arith, leb-true n 999 (and_left (leb n 999) true h))

module _ (minimum mean maximum : ℤ) (l : Measured minimum) (m : Measured mean) (h : Measured maximum) where
  span : mag (maximum -ℤ minimum) ≤ 3002
  span = omega (arith, mag_minus maximum minimum, small minimum l, small maximum h)

  pub span_fits : SFits w32 (read maximum -ℤ read minimum)
  span_fits = rw (same maximum (omega (arith, small maximum h)), same minimum (omega (arith, small minimum l))) (fits _ (omega (arith, span)))

  pub triple_fits : SFits w32 (pos 3 *ℤ read mean)
  triple_fits = rw (same mean (omega (arith, small mean m))) (fits _ (omega (arith, mag_triple mean, small mean m)))

  triple : read (pos 3 *ℤ read mean) ≡ pos 3 *ℤ mean
  triple = to_z-of_z triple_fits ∙ ap (λ (z : ℤ). pos 3 *ℤ z) (same mean (omega (arith, small mean m)))

  spanned : read (read maximum -ℤ read minimum) ≡ maximum -ℤ minimum
  spanned =
      to_z-of_z span_fits
      ∙ ap (λ (z : ℤ). z -ℤ read minimum) (same maximum (omega (arith, small maximum h)))
      ∙ ap (λ (z : ℤ). maximum -ℤ z) (same minimum (omega (arith, small minimum l)))

  pub index_fits : SFits w32 (read (pos 3 *ℤ read mean) -ℤ read (read maximum -ℤ read minimum))
  index_fits =
      rw (triple, spanned)
      (fits _ (omega (arith, mag_minus (pos 3 *ℤ mean) (maximum -ℤ minimum), mag_triple mean, small mean m, span)))

  pub index_test : le_z (read (read (pos 3 *ℤ read mean) -ℤ read (read maximum -ℤ read minimum))) (pos 960) ≡ falls_as_snow minimum mean maximum
  unfolding falls_as_snow
  index_test =
      ap (λ (z : ℤ). le_z z (pos 960))
      (to_z-of_z index_fits ∙ ap (λ (z : ℤ). z -ℤ read (read maximum -ℤ read minimum)) triple ∙ ap (λ (z : ℤ). pos 3 *ℤ mean -ℤ z) spanned)
