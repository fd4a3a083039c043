-- Sums over the places below n.
use Rattle.std.specs.Prelude.{Bool, true, false, ℕ, zero, suc, ◌+◌}

-- f 0 + f 1 + .. + f (n - 1)
unfoldable pub sum : ℕ → (ℕ → ℕ) → ℕ
sum zero f = 0
sum (suc n) f = sum n f + f n

-- x where the test holds, else nothing
unfoldable pub given : Bool → ℕ → ℕ
given true x = x
given false x = 0
