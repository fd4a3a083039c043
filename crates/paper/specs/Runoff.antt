-- Rule 6, runoff by the curve number (SCS, abstraction 0.2). Where the paper's a is not above 0, `beyond_abstraction` is 0, and the runoff is 0.
use Rattle.std.specs.Prelude.{ℕ, ◌+◌, ◌-◌, ◌*◌, ◌/◌}

-- a = c(w + 20,000) - 2,000,000
unfoldable pub beyond_abstraction : ℕ → ℕ → ℕ
beyond_abstraction c w = c * (w + 20000) - 2000000

-- b = c(w - 80,000) + 8,000,000, for c up to 100
unfoldable pub spread : ℕ → ℕ → ℕ
spread c w = c * w + 8000000 - 80000 * c

-- floor(a² / (c × b))
unfoldable pub runoff : ℕ → ℕ → ℕ
runoff c w = beyond_abstraction c w * beyond_abstraction c w / (c * spread c w)
