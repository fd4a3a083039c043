-- The cell asked about among the tests, and the stores copied.
use Rattle.std.specs.Prelude.{cond, List, ◌≡◌, ℕ, ◌≤◌, ltb, length, take}
use Rattle.paper.specs.Limits.{within}
use Rattle.paper.specs.Refusals.{cell_numbers, Verdict, refused, verdict_number}

-- a cell outside the grid is 4 at its number, unless one of tests 1 to 4 has refused before
unfoldable pub asked_of : ℕ → ℕ → Verdict → Verdict
asked_of n cell v = cond (ltb cell n) v (cond (within 1 4 (verdict_number v)) v (refused (cell_numbers cell)))

-- a list at the front of a longer one
pub record Copied (store copy : List ℕ) : Type 0 where
  pub room : length store ≤ length copy
  pub same : take (length store) copy ≡ store
