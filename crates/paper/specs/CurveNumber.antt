-- Rule 5, curve number.
use Rattle.std.specs.Prelude.{Bool, cond, ℕ, ◌+◌, ◌-◌, ◌*◌, ◌/◌, ltb}

-- the antecedent condition
pub data Condition : Type 0 where
  I II III : Condition

-- below the first limit I, above the second III, else II
unfoldable pub class : ℕ → ℕ → ℕ → Condition
class low high five_days = cond (ltb five_days low) I (cond (ltb high five_days) III II)

-- growing: 14,000 and 21,000; dormant: 5,000 and 11,000
unfoldable pub condition_of : Bool → ℕ → Condition
condition_of growing five_days = cond growing (class 14000 21000 five_days) (class 5000 11000 five_days)

-- the quotient rounded to nearest, halves up
unfoldable pub nearest : ℕ → ℕ → ℕ
nearest p q = (2 * p + q) / (2 * q)

-- from the table's N
unfoldable pub curve_number : Condition → ℕ → ℕ
curve_number I N = nearest (100000 * N) (228100 - 1281 * N)
curve_number II N = N
curve_number III N = nearest (100000 * N) (42700 + 573 * N)
