-- A code's number on the machine's signed numbers.
use mathlib.Core.Path.{◌≡◌, refl, ap, ◌∙◌}
use Prim.Native.Nat.{ℕ, zero, suc, ◌+◌, ◌-◌, ◌≤◌, ◌<◌, min}
use native.Mathlib.Nat.{not-suc-le-zero}
use native.Mathlib.Omega.{arith}
use lib.IntN.{ℤ, pos, negsuc, ◌-ℤ◌}
use mir.Syntax.{w32}
use mir.Val.{SFits, to_z, of_z}
use mir.Facts.{to_z-of_z, to_z_pos}
use borrow.Author.Tests.{lt-ltb, le-ltb}
use Rattle.theory.proofs.Cases.{below_or_not}
use Rattle.lines.specs.Reading.{negatives, no_number, signed}
use Rattle.text.specs.Laying.{degrees}

below_zero : (c : ℕ) → negatives < c → pos 1000000000 -ℤ pos c ≡ negsuc (c - (negatives + 1))
below_zero zero h = absurd (not-suc-le-zero h)
below_zero (suc k) h = rw (lt-ltb negatives (suc k) h) refl

-- a code of a number is read as that number
pub small_degrees : (c : ℕ) → c < no_number → degrees c ≡ signed c
unfolding degrees
small_degrees c small = ap signed (omega arith)

module _ (c : ℕ) (small : c < no_number) where
  plain : to_z w32 c ≡ pos c
  plain = to_z_pos w32 (omega arith)

  pub minus_fits : negatives < c → SFits w32 (pos 1000000000 -ℤ to_z w32 c)
  minus_fits h = rw (plain, below_zero c h) (record { sfits = omega arith })

  pub minus_degrees : negatives < c → to_z w32 (of_z w32 (pos 1000000000 -ℤ to_z w32 c)) ≡ degrees c
  unfolding signed
  minus_degrees h = to_z-of_z (minus_fits h) ∙ rw (small_degrees c small, plain, below_zero c h, lt-ltb negatives c h) refl

  pub plain_degrees : c ≤ negatives → to_z w32 c ≡ degrees c
  unfolding signed
  plain_degrees h = rw (small_degrees c small) (plain ∙ rw (le-ltb negatives c h) refl)

  signed_fits : SFits w32 (signed c)
  unfolding signed
  signed_fits =
      below_or_not negatives c (λ h. rw (lt-ltb negatives c h) (record { sfits = omega arith }))
      (λ h. rw (le-ltb negatives c h) (record { sfits = omega arith }))

-- from there on every code is the lowest number
pub none_degrees : (c : ℕ) → no_number ≤ c → negsuc 999999998 ≡ degrees c
unfolding degrees signed
none_degrees c h = let most : min c (no_number - 1) ≡ 1999999999 = omega arith in rw most refl

-- kept in a field of a record
pub degrees_kept : (c : ℕ) (z : ℤ) → z ≡ degrees c → to_z w32 (of_z w32 z) ≡ degrees c
unfolding degrees
degrees_kept c z e = to_z-of_z {w = w32} {z = z} (rw e (signed_fits (min c (no_number - 1)) (omega arith))) ∙ e
