-- Rule 8's table as the code holds it: each sixteenth entry, and the working array of all 2,049.
use Rattle.std.specs.Prelude.{cond, List, ℕ, ◌+◌, ◌*◌, ◌/◌, ◌%◌, ltb}
use Rattle.theory.specs.Lists.{made}
use Rattle.paper.specs.Retention.{F}

-- F(0), F(16), .. F(2,048)
unfoldable pub kept : List ℕ
kept = made 129 (λ j. F (16 * j))

-- the knot at a place of the working array: first the 128 kept ones, then the one after each of them, and so on; the last place is knot 2,048's
unfoldable pub knot_at : ℕ → ℕ
knot_at i = cond (ltb i 2048) (16 * (i % 128) + i / 128) 2048

-- the place of a knot; past 2,048 the last
unfoldable pub place_of : ℕ → ℕ
place_of k = cond (ltb k 2048) (k % 16 * 128 + k / 16) 2048

unfoldable pub table : List ℕ
table = made 2049 (λ i. F (knot_at i))
