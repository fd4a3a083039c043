-- What stands where a test holds, by the test's two cases.
use mathlib.Core.Path.{◌≡◌, refl, sym}
use mathlib.Core.Bool.{Bool, true, false, true≢false}
use Prim.Native.Nat.{ℕ, ◌≤◌, zero-le}
use Rattle.theory.specs.Sums.{given}

pub given_if : (b : Bool) {x y : ℕ} → (b ≡ true → x ≡ y) → given b x ≡ given b y
unfolding given
given_if true e = e refl
given_if false e = refl

pub given_comm : (a b : Bool) (x : ℕ) → given a (given b x) ≡ given b (given a x)
unfolding given
given_comm true true x = refl
given_comm true false x = refl
given_comm false true x = refl
given_comm false false x = refl

-- where one test passes another does, at as much or more
pub given_implied : (a b : Bool) {x y : ℕ} → (a ≡ true → b ≡ true) → (a ≡ true → x ≤ y) → given a x ≤ given b y
unfolding given
given_implied true true t h = h refl
given_implied true false t h = absurd (true≢false (sym (t refl)))
given_implied false b t h = zero-le

pub given_true : (b : Bool) (x : ℕ) → b ≡ true → given b x ≡ x
unfolding given
given_true b x e = rw e

pub given_false : (b : Bool) (x : ℕ) → b ≡ false → given b x ≡ 0
unfolding given
given_false b x e = rw e
