-- Places 0 to n - 1 with one way out of each: `next i` is where i leads, and a number from n on is outside, from where no way leads back.
use Rattle.std.specs.Prelude.{◌≡◌, Bool, ℕ, zero, suc, ◌≤◌, ◌<◌, eqb}
use Rattle.theory.specs.Lowest.{some}

-- where i leads in k steps
unfoldable pub walk : (ℕ → ℕ) → ℕ → ℕ → ℕ
walk next zero i = i
walk next (suc k) i = next (walk next k i)

-- i leads back to itself: on some step from the first to the n-th
unfoldable pub on_ring : ℕ → (ℕ → ℕ) → ℕ → Bool
on_ring n next i = some n (λ k. eqb (walk next (suc k) i) i)

-- outside stays outside
pub record OneWay (n : ℕ) (next : ℕ → ℕ) : Type 0 where
  pub outside : (i : ℕ) → n ≤ i → n ≤ next i

-- no place lies on a ring
pub record RingFree (n : ℕ) (next : ℕ → ℕ) : Type 0 where
  pub free : (i k : ℕ) → i < n → walk next (suc k) i ≡ i → ⊥

-- an order of all the places in which each stands after those that lead to it: place `who t` is visited at turn t, place i at turn `turn i`
pub record UpslopeFirst (n : ℕ) (next : ℕ → ℕ) : Type 0 where
  pub who : ℕ → ℕ
  pub turn : ℕ → ℕ
  pub placed : (t : ℕ) → t < n → who t < n
  pub turned : (i : ℕ) → i < n → turn i < n
  pub who_turn : (i : ℕ) → i < n → who (turn i) ≡ i
  pub turn_who : (t : ℕ) → t < n → turn (who t) ≡ t
  pub after : (j : ℕ) → j < n → next j < n → turn j < turn (next j)
