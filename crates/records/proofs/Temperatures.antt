-- How far a temperature is from freezing, on the machine's signed numbers. A number that fits 32 bits reads back as itself, and past the test the difference is
-- not below zero, so that its bits are the number's.
use mathlib.Core.Bool.{true, false}
use mathlib.Core.Path.{◌≡◌, refl, sym, ap, ◌∙◌}
use Prim.Native.Nat.{ℕ, zero, suc, ◌-◌, ◌≤◌, ◌<◌}
use native.Mathlib.Omega.{arith}
use lib.Dec.{T}
use lib.IntN.{ℤ, pos, negsuc, nat_abs, ◌-ℤ◌}
use lib.Signed.{mag, le_z, non_neg}
use mir.Syntax.{w32, w64}
use mir.Val.{Fits, SFits, to_z, of_z}
use mir.Facts.{to_z-of_z}
use borrow.Author.Tests.{leb-true, leb-false, le-ltb}
use Rattle.paper.specs.Snow.{above_freezing}
use Rattle.records.specs.Temperatures.{below_freezing, farthest}

-- past the test against freezing the difference is the distance, and before it the distance is 0
above_none : (z : ℤ) → le_z z (pos 320) ≡ true → above_freezing z ≡ 0
unfolding above_freezing
above_none (pos n) e = omega (arith, leb-true n 320 e)
above_none (negsuc n) e = refl

above_some : (z : ℤ) → le_z z (pos 320) ≡ false → z -ℤ pos 320 ≡ pos (above_freezing z)
unfolding above_freezing
above_some (pos n) e = rw (le-ltb n 320 (omega (arith, leb-false n 320 e)))
above_some (negsuc n) e = cc

below_none : (z : ℤ) → le_z (pos 320) z ≡ true → below_freezing z ≡ 0
unfolding below_freezing
below_none (pos n) e = omega (arith, leb-true 320 n e)
below_none (negsuc n) e = absurd (let z : ◌≡◌ {A = ℕ} 0 1 = cc in omega arith)

less_pos : (a b : ℕ) → b ≤ a → pos a -ℤ pos b ≡ pos (a - b)
less_pos a zero h = ap pos (omega arith)
less_pos a (suc b) h = rw (le-ltb a (suc b) h) refl

below_some : (z : ℤ) → le_z (pos 320) z ≡ false → pos 320 -ℤ z ≡ pos (below_freezing z)
unfolding below_freezing
below_some (pos n) e = less_pos 320 n (omega (arith, leb-false 320 n e))
below_some (negsuc n) e = refl

above_near : (z : ℤ) → mag z < 2147483648 → above_freezing z < 2147483648
unfolding above_freezing
above_near (pos n) h = omega arith
above_near (negsuc n) h = omega arith

below_near : (z : ℤ) → mag z < 2147483648 → below_freezing z ≤ 2147483968
unfolding below_freezing
below_near (pos n) h = omega arith
below_near (negsuc n) h = omega arith

-- what a step reads of a number of 32 bits
abbrev read : ℤ → ℤ
read z = to_z w32 (of_z w32 z)

module _ (z : ℤ) (h : mag z < 2147483648) where
  whole : read z ≡ z
  whole = to_z-of_z {w = w32} (record { sfits = h })

  pub none_above : le_z (read z) (pos 320) ≡ true → (0 ≡ above_freezing z) × (0 < farthest)
  none_above p = (sym (above_none z (rw whole at p)), omega arith)

  module _ (p : le_z (read z) (pos 320) ≡ false) where
    over : read z -ℤ pos 320 ≡ pos (above_freezing z)
    over = ap (λ (x : ℤ). x -ℤ pos 320) whole ∙ above_some z (rw whole at p)

    pub above_fits : SFits w32 (read z -ℤ pos 320)
    above_fits = rw over (record { sfits = above_near z h })

    above : read (read z -ℤ pos 320) ≡ pos (above_freezing z)
    above = to_z-of_z above_fits ∙ over

    pub above_cast : T (non_neg (read (read z -ℤ pos 320))) × Fits w64 (nat_abs (read (read z -ℤ pos 320)))
    above_cast = rw above (tt, record { fits = omega (arith, above_near z h) })

    pub above_is : (nat_abs (read (read z -ℤ pos 320)) ≡ above_freezing z) × (nat_abs (read (read z -ℤ pos 320)) < farthest)
    above_is = rw above (refl, omega (arith, above_near z h))

  pub none_below : le_z (pos 320) (read z) ≡ true → (0 ≡ below_freezing z) × (0 < farthest)
  none_below p = (sym (below_none z (rw whole at p)), omega arith)

  wide : SFits w64 z
  wide = record { sfits = omega (arith, h) }

  pub wide_fits : SFits w64 (read z)
  wide_fits = rw whole wide

  -- the difference is worked out in 64 bits
  abbrev difference : ℤ
  difference = pos 320 -ℤ to_z w64 (of_z w64 (read z))

  module _ (p : le_z (pos 320) (read z) ≡ false) where
    under : difference ≡ pos (below_freezing z)
    under = ap (λ (x : ℤ). pos 320 -ℤ x) (to_z-of_z wide_fits ∙ whole) ∙ below_some z (rw whole at p)

    pub below_fits : SFits w64 difference
    below_fits = rw under (record { sfits = omega (arith, below_near z h) })

    below : to_z w64 (of_z w64 difference) ≡ pos (below_freezing z)
    below = to_z-of_z below_fits ∙ under

    pub below_cast : T (non_neg (to_z w64 (of_z w64 difference))) × Fits w64 (nat_abs (to_z w64 (of_z w64 difference)))
    below_cast = rw below (tt, record { fits = omega (arith, below_near z h) })

    pub below_is : (nat_abs (to_z w64 (of_z w64 difference)) ≡ below_freezing z) × (nat_abs (to_z w64 (of_z w64 difference)) < farthest)
    below_is = rw below (refl, omega (arith, below_near z h))
