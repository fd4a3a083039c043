-- A search that comes to a place that fails, or past the last, has found the lowest: none of the places that it passed failed. And what a
-- search answers says what it found.
use mathlib.Core.Path.{◌≡◌, refl, sym, ap}
use mathlib.Core.Bool.{Bool, true, false}
use Prim.Native.Nat.{ℕ, ◌≤◌, ◌<◌}
use native.Mathlib.Nat.{lt_of_lt_of_le}
use native.Mathlib.Omega.{arith}
use Rattle.theory.specs.Lowest.{Found, at, nowhere, lowest}
use Rattle.theory.proofs.LowestLaws.{at_lowest, none_lowest}
use Rattle.records.specs.Places.{place_in}
use Rattle.std.specs.Prelude.{Some, None}

-- the places below i pass
abbrev pub PassedTo : (ℕ → Bool) → ℕ → Type 0
PassedTo test i = (j : ℕ) → j < i → test j ≡ false

pub found_place : (n : ℕ) (test : ℕ → Bool) (i : ℕ) → PassedTo test i → i < n → test i ≡ true → Some i ≡ place_in (lowest n test)
unfolding place_in
found_place n test i passed h t = ap place_in (sym (at_lowest n test i h t passed))

pub no_place : (n : ℕ) (test : ℕ → Bool) (i : ℕ) → PassedTo test i → n ≤ i → None ≡ place_in (lowest n test)
unfolding place_in
no_place n test i passed h = ap place_in (sym (none_lowest n test (λ j l. passed j (lt_of_lt_of_le l h))))

pub found_at : (f : Found) (i : ℕ) → Some i ≡ place_in f → f ≡ at i
unfolding place_in
found_at (at j) i e = let same : i ≡ j = cc in ap at (sym same)
found_at nowhere i e = absurd (let z : ◌≡◌ {A = ℕ} 0 1 = cc in omega arith)

pub found_no : (f : Found) → None ≡ place_in f → f ≡ nowhere
unfolding place_in
found_no (at j) e = absurd (let z : ◌≡◌ {A = ℕ} 0 1 = cc in omega arith)
found_no nowhere e = refl
