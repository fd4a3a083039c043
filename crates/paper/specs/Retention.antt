-- Rule 8's table F, L and loss.
use Rattle.std.specs.Prelude.{cond, ℕ, zero, suc, ◌+◌, ◌-◌, ◌*◌, ◌/◌, ltb}

abbrev pub whole : ℕ
whole = 1048576

abbrev pub last_knot : ℕ
last_knot = 2048

-- F(0) = 1,048,576, and each next entry is the one before less its 256th part rounded down
unfoldable pub F : ℕ → ℕ
F zero = whole
F (suc k) = F k - F k / 256

-- L between the knots: f of C past knot k
unfoldable pub between : ℕ → ℕ → ℕ → ℕ
between C k f = (whole - F k) * C + (F k - F (suc k)) * f

-- L for the shortfall d at capacity C, with k = floor(256d / C) and f = 256d - kC
unfoldable pub L : ℕ → ℕ → ℕ
L C d = cond (ltb (256 * d / C) last_knot) (between C (256 * d / C) (256 * d - 256 * d / C * C)) ((whole - F last_knot) * C)

-- floor(soil × L / (1,048,576 × C)); 0 where C is 0, since a quotient by 0 is 0 here
unfoldable pub loss : ℕ → ℕ → ℕ → ℕ
loss C soil d = soil * L C d / (whole * C)
