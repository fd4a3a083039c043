-- Whole numbers on the machine's signed numbers of 32 bits: each reads back as itself, what a word means fits them, and each is written
-- by how far it is from zero.
use mathlib.Core.Bool.{true, false}
use mathlib.Core.List.{List, ◌∷◌}
use mathlib.Core.Path.{◌≡◌, refl, sym, ap, ◌∙◌}
use Prim.Native.Nat.{ℕ, ◌≤◌}
use native.Mathlib.Omega.{arith}
use lib.IntN.{ℤ, pos, negsuc, nat_abs}
use lib.Signed.{lt_z, nat_abs-le}
use mir.Syntax.{w32}
use mir.Val.{SFits, to_z, of_z}
use mir.Facts.{to_z-of_z}
use borrow.Author.Tests.{ltb-true}
use Rattle.std.specs.Prelude.{Option, Some, unwrap_or}
use Rattle.words.specs.Digits.{digits, written}
use Rattle.words.specs.Numbers.{Word, good, bad, number, number_in}
use Rattle.words.specs.Writing.{Put, Wrote}
use Rattle.words.proofs.NumberLaws.{NineDigits, Small, number_small}
use Rattle.words.proofs.DigitLaws.{digits_below}
use Rattle.words.proofs.WritingLaws.{wrote_as, wrote_bytes}
use Rattle.grids.specs.Headers.{no_number, whole_of}
use Rattle.grids.specs.Forms.{most_far, most_signed}

abbrev pub read : ℤ → ℤ
read z = to_z w32 (of_z w32 z)

below_written : (z : ℤ) → lt_z z (pos 0) ≡ true → written z ≡ 45 ∷ digits (nat_abs z)
unfolding written
below_written (pos n) e = absurd (omega (arith, ltb-true n 0 e))
below_written (negsuc m) e = refl

plain_written : (z : ℤ) → lt_z z (pos 0) ≡ false → written z ≡ digits (nat_abs z)
unfolding written
plain_written (pos n) e = refl
plain_written (negsuc m) e = absurd (let o : ◌≡◌ {A = ℕ} 0 1 = cc in omega arith)

module _ (z : ℤ) (h : SFits w32 z) where
  pub whole : read z ≡ z
  whole = to_z-of_z h

  near : nat_abs z ≤ most_far
  near = nat_abs-le z h.sfits

  module _ (p : lt_z (read z) (pos 0) ≡ true) where
    -- a minus and at most ten digits are written
    pub below_wrote : {at far r : ℕ} {l l' : List ℕ} → far ≡ nat_abs (read z) → Put at (45 ∷ digits far) l l' r → Wrote most_signed at (written z) l l' r
    below_wrote {far = far} e w =
        wrote_as most_signed (written z) (wrote_bytes w) (ap (λ (n : ℕ). 45 ∷ digits n) (e ∙ ap nat_abs whole) ∙ sym (below_written z (rw whole at p)))
        (rw (below_written z (rw whole at p)) (omega (arith, digits_below 9 (nat_abs z) (omega (arith, near)))))

  module _ (p : lt_z (read z) (pos 0) ≡ false) where
    pub plain_wrote : {at far r : ℕ} {l l' : List ℕ} → far ≡ nat_abs (read z) → Put at (digits far) l l' r → Wrote most_signed at (written z) l l' r
    plain_wrote {far = far} e w =
        wrote_as most_signed (written z) (wrote_bytes w) (ap digits (e ∙ ap nat_abs whole) ∙ sym (plain_written z (rw whole at p)))
        (rw (plain_written z (rw whole at p)) (omega (arith, digits_below 9 (nat_abs z) (omega (arith, near)))))

-- what a word means: its number, which fits 32 bits, or the number below all of nine digits
pub meant_fits : (m : Word) → Small m → SFits w32 (whole_of m)
unfolding whole_of Small NineDigits
meant_fits (good (pos n)) s = record { sfits = omega (arith, s) }
meant_fits (good (negsuc k)) s = record { sfits = omega (arith, s) }
meant_fits bad s = record { sfits = omega arith }

number_fits : (m : Word) (z : ℤ) → Small m → Some z ≡ number_in m → SFits w32 z
unfolding Small NineDigits number_in
number_fits (good (pos n)) z s e = let same : z ≡ pos n = cc in rw same (record { sfits = omega (arith, s) })
number_fits (good (negsuc n)) z s e = let same : z ≡ negsuc n = cc in rw same (record { sfits = omega (arith, s) })
number_fits bad z s e = absurd (let o : ◌≡◌ {A = ℕ} 0 1 = cc in omega arith)

-- a word's number reads back as itself
pub number_read : (w : List ℕ) (z : ℤ) → Some z ≡ number_in (number w) → read z ≡ z
number_read w z e = whole z (number_fits (number w) z (number_small w) e)

whole_or : (m : Word) → unwrap_or (number_in m) no_number ≡ whole_of m
unfolding number_in whole_of
whole_or (good z) = refl
whole_or bad = refl

pub whole_meant : (w : List ℕ) {o : Option ℤ} {z : ℤ} → o ≡ number_in (number w) → z ≡ unwrap_or o no_number → read z ≡ whole_of (number w)
whole_meant w {z = z} eo ez =
    let same : z ≡ whole_of (number w) = ez ∙ rw eo (whole_or (number w)) in
    ap read same ∙ whole (whole_of (number w)) (meant_fits (number w) (number_small w))
