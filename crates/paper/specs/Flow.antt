-- Rule 4: the water that reaches each of n cells, upslope first. `own` is each cell's own water, `next` where it points, and
-- `passed` its outflow for the water that reached it. No order of visiting cells stands here.
use Rattle.std.specs.Prelude.{ℕ, zero, suc, ◌+◌, eqb}
use Rattle.theory.specs.Sums.{sum, given}

-- the sum of what the cells pointing to i pass on, for the water that `reached` each
unfoldable pub arriving : ℕ → (ℕ → ℕ) → (ℕ → ℕ → ℕ) → (ℕ → ℕ) → ℕ → ℕ
arriving n next passed reached i = sum n (λ j. given (eqb (next j) i) (passed j (reached j)))

-- the water that reaches i from the cells up to k steps above it
unfoldable pub water_from : ℕ → (ℕ → ℕ) → (ℕ → ℕ → ℕ) → (ℕ → ℕ) → ℕ → ℕ → ℕ
water_from n next passed own zero i = own i
water_from n next passed own (suc k) i = own i + arriving n next passed (water_from n next passed own k) i

-- no path without a ring has more than n steps
unfoldable pub water : ℕ → (ℕ → ℕ) → (ℕ → ℕ → ℕ) → (ℕ → ℕ) → ℕ → ℕ
water n next passed own = water_from n next passed own n
