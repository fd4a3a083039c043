-- A proof by the two cases of a test, and what a test and its parts say of each other.
use mathlib.Core.Path.{◌≡◌, refl, sym}
use mathlib.Core.Bool.{Bool, true, false, cond, ◌&&◌, true≢false}
use Prim.Native.Nat.{ℕ, ◌≤◌, ◌<◌}
use lib.Dec.{ltb}
use borrow.Author.Tests.{ltb-true, ltb-false}

pub by_cases {ℓ} : {P : Type ℓ} (b : Bool) → (b ≡ true → P) → (b ≡ false → P) → P
by_cases true holds fails = holds refl
by_cases false holds fails = fails refl

pub below_or_not {ℓ} : {P : Type ℓ} (a b : ℕ) → (a < b → P) → (b ≤ a → P) → P
below_or_not a b less more = by_cases (ltb a b) (λ e. less (ltb-true a b e)) (λ e. more (ltb-false a b e))

pub and_left : (a b : Bool) → (a && b) ≡ true → a ≡ true
and_left true b e = refl
and_left false b e = e

pub and_right : (a b : Bool) → (a && b) ≡ true → b ≡ true
and_right true b e = e
and_right false true e = refl
and_right false false e = e

pub and_both : (a b : Bool) → a ≡ true → b ≡ true → (a && b) ≡ true
and_both true b ea eb = eb
and_both false b ea eb = ea

pub cond_true : {A : Type 0} (b : Bool) → b ≡ true → (x y : A) → cond b x y ≡ x
cond_true true e x y = refl
cond_true false e x y = absurd (true≢false (sym e))

pub cond_false : {A : Type 0} (b : Bool) → b ≡ false → (x y : A) → cond b x y ≡ y
cond_false true e x y = absurd (true≢false e)
cond_false false e x y = refl

pub and_first : (a b : Bool) → a ≡ false → (a && b) ≡ false
and_first true b e = absurd (true≢false e)
and_first false b e = refl

pub and_second : (a b : Bool) → b ≡ false → (a && b) ≡ false
and_second true b e = e
and_second false b e = refl
