-- Which cells are refused: on the machine's signed numbers, and one after another.
use mathlib.Core.Bool.{Bool, true, false, not}
use mathlib.Core.List.{List, [], ◌∷◌}
use mathlib.Core.Path.{◌≡◌, refl}
use Prim.Native.Nat.{ℕ, ◌*◌}
use native.Mathlib.Omega.{arith}
use lib.Dec.{eqb}
use lib.IntN.{ℤ, pos, negsuc, nat_abs}
use lib.Signed.{lt_z}
use mir.Syntax.{w32}
use mir.Val.{SFits}
use borrow.Author.Tests.{ltb-true}
use Rattle.std.specs.List.{prefix_len}
use Rattle.theory.proofs.Cases.{by_cases}
use Rattle.grids.specs.Cells.{depth_fits, passing}
use Rattle.grids.proofs.WholeLaws.{read, whole}

negative_depth : (z : ℤ) (units : ℕ) → lt_z z (pos 0) ≡ true → true ≡ depth_fits z units
unfolding depth_fits
negative_depth (pos n) units e = absurd (omega (arith, ltb-true n 0 e))
negative_depth (negsuc m) units e = refl

plain_depth : (z : ℤ) (units : ℕ) → lt_z z (pos 0) ≡ false → not (eqb units (10000 * nat_abs z)) ≡ depth_fits z units
unfolding depth_fits
plain_depth (pos n) units e = refl
plain_depth (negsuc m) units e = absurd (let o : ◌≡◌ {A = ℕ} 0 1 = cc in omega arith)

pub depth_below : (no_data : ℤ) (units : ℕ) → SFits w32 no_data → lt_z (read no_data) (pos 0) ≡ true → true ≡ depth_fits no_data units
depth_below no_data units h p = negative_depth no_data units (rw (whole no_data h) at p)

pub depth_plain :
    (no_data : ℤ) (units far : ℕ) → SFits w32 no_data → lt_z (read no_data) (pos 0) ≡ false → far ≡ nat_abs (read no_data)
    → not (eqb units (10000 * far)) ≡ depth_fits no_data units
depth_plain no_data units far h p e = rw (e, whole no_data h) (plain_depth no_data units (rw (whole no_data h) at p))

-- what an iterator counts
pub passing_counted : {A : Type 0} (test : A → Bool) (l : List A) → prefix_len test l ≡ passing test l
unfolding passing
passing_counted test [] = refl
passing_counted test (x ∷ xs) = rw (passing_counted test xs) (by_cases (test x) (λ e. rw e (omega arith)) (λ e. rw e refl))
