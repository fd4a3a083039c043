-- How far a floor moves: a quotient by a positive D' holds every n / D whose cross product is no larger, and s whole divisors more make it at most s more.
use mathlib.Core.Logic.{◌⊎◌, inl, inr}
use mathlib.Core.Path.{◌≡◌}
use Prim.Native.Nat.{ℕ, ◌+◌, ◌*◌, ◌/◌, ◌≤◌, ◌<◌}
use native.Mathlib.Nat.{eq-zero-or-pos, div-zero, add-mul-div_right, le-div_iff_mul-le, le_of_mul-le-mul_right, mul-le-mul_right, div-mul-le_self}
use native.Mathlib.Omega.{arith}

pub ratio : (n D m D' s : ℕ) → 0 < D' → n * D' ≤ (m + s * D') * D → n / D ≤ m / D' + s
ratio n D m D' s p h = go (eq-zero-or-pos D)
  where
    go : (D ≡ 0) ⊎ (0 < D) → n / D ≤ m / D' + s
    go (inl e) = rw (e, div-zero) (omega arith)
    go (inr q) =
        let below : n / D * D * D' ≤ n * D' = mul-le-mul_right D' (div-mul-le_self n D) in
        rw (← add-mul-div_right m s p) ((le-div_iff_mul-le p).1 (le_of_mul-le-mul_right {k = D} (omega arith) q))

pub slack : (n n' s D : ℕ) → n' ≤ n + s * D → n' / D ≤ n / D + s
slack n n' s D h = go (eq-zero-or-pos D)
  where
    go : (D ≡ 0) ⊎ (0 < D) → n' / D ≤ n / D + s
    go (inl e) = simp (e, div-zero) (omega arith)
    go (inr p) = ratio n' D n D s p (mul-le-mul_right D h)

pub div_mono : {n m : ℕ} (D : ℕ) → n ≤ m → n / D ≤ m / D
div_mono {n} {m} D h = let more : n / D ≤ m / D + 0 = slack m n 0 D (omega arith) in omega arith
