-- Rule 5's curve numbers stay from 1 to 100: a quotient rounded to nearest is below 101 where twice the dividend is below 201 divisors, and at least 1 where
-- it is at least one, which is linear in N from 30 to 100.
use Prim.Native.Nat.{ℕ, ◌+◌, ◌-◌, ◌*◌, ◌/◌, ◌≤◌, ◌<◌}
use native.Mathlib.Nat.{div-lt_iff_lt-mul, le-div_iff_mul-le}
use native.Mathlib.Omega.{arith}
use Rattle.paper.specs.CurveNumber.{Condition, I, II, III, nearest, curve_number}

pub record UpTo100 (c : ℕ) : Type 0 where
  pub least : 1 ≤ c
  pub most : c ≤ 100

rounded : (p q : ℕ) → 0 < q → q ≤ 2 * p → 2 * p < 201 * q → UpTo100 (nearest p q)
unfolding nearest
rounded p q h low high =
    let pos : 0 < 2 * q = omega arith in
    let below : (2 * p + q) / (2 * q) < 101 = (div-lt_iff_lt-mul pos).1 (omega arith) in
    record { least = (le-div_iff_mul-le pos).1 (omega arith); most = omega arith }

pub curve_number_limits : (condition : Condition) (N : ℕ) → 30 ≤ N → N ≤ 100 → UpTo100 (curve_number condition N)
unfolding curve_number
curve_number_limits I N low high = rounded (100000 * N) (228100 - 1281 * N) (omega arith) (omega arith) (omega arith)
curve_number_limits II N low high = record { least = omega arith; most = high }
curve_number_limits III N low high = rounded (100000 * N) (42700 + 573 * N) (omega arith) (omega arith) (omega arith)
