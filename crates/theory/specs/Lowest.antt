-- The lowest place below n at which a test holds.
use Rattle.std.specs.Prelude.{Bool, true, false, ℕ, zero, suc}

pub data Found : Type 0 where
  at : ℕ → Found
  nowhere : Found

-- what was found already, else this place where the test holds
unfoldable pub or_at : Found → ℕ → Bool → Found
or_at (at i) n b = at i
or_at nowhere n true = at n
or_at nowhere n false = nowhere

unfoldable pub lowest : ℕ → (ℕ → Bool) → Found
lowest zero test = nowhere
lowest (suc n) test = or_at (lowest n test) n (test n)

unfoldable pub is_found : Found → Bool
is_found (at i) = true
is_found nowhere = false

-- some place below n passes the test
unfoldable pub some : ℕ → (ℕ → Bool) → Bool
some n test = is_found (lowest n test)
