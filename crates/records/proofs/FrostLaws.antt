-- The day's step of the frost index without cases: of a mean's distances above and below freezing one is 0. Whole hundreds of the index keep 97 each.
use mathlib.Core.Path.{◌≡◌, refl}
use Prim.Native.Nat.{ℕ, suc, ◌+◌, ◌-◌, ◌*◌, ◌/◌, ◌%◌}
use native.Mathlib.Omega.{arith}
use lib.IntN.{ℤ, pos, negsuc}
use borrow.Author.Tests.{lt-ltb, le-ltb}
use Rattle.theory.proofs.Cases.{below_or_not}
use Rattle.paper.specs.Snow.{above_freezing}
use Rattle.paper.specs.Frost.{frost_after}
use Rattle.paper.proofs.FrostLaws.{frost_thaws, frost_grows}
use Rattle.records.specs.Temperatures.{below_freezing}

kept : (index : ℕ) → 97 * (index / 100) + 97 * (index % 100) / 100 ≡ 97 * index / 100
kept index = omega arith

-- nothing lost, x tenths of frost; or w tenths of thaw, nothing gained
grown : (k w x : ℕ) → w ≡ 0 → k - 1000 * w / 18 + (1000 * x + 18 - 1) / 18 ≡ k + (1000 * x + 17) / 18
grown k w x e = rw e (omega arith)

thawed : (k w x : ℕ) → x ≡ 0 → k - 1000 * w / 18 + (1000 * x + 18 - 1) / 18 ≡ k - 1000 * w / 18
thawed k w x e = rw e (omega arith)

pub frost_step : (index : ℕ) (mean : ℤ)
    → 97 * (index / 100) + 97 * (index % 100) / 100 - 1000 * above_freezing mean / 18 + (1000 * below_freezing mean + 18 - 1) / 18 ≡ frost_after index mean
unfolding above_freezing below_freezing
frost_step index (pos m) =
    below_or_not m 320
    (λ h.
    let cold : suc (320 - suc m) ≡ 320 - m = omega arith in
    rw (frost_grows index (320 - suc m) (pos m) (rw (lt-ltb m 320 h) refl), kept index, cold) (grown _ (m - 320) (320 - m) (omega arith)))
    (λ h.
    rw (frost_thaws index (m - 320) (pos m) (rw (le-ltb m 320 h) refl), kept index) (thawed _ (m - 320) (320 - m) (omega arith)))
frost_step index (negsuc m) =
    let cold : suc (suc (m + 319)) ≡ 320 + suc m = omega arith in
    rw (frost_grows index (suc (m + 319)) (negsuc m) refl, kept index, cold) (grown _ 0 (320 + suc m) refl)
