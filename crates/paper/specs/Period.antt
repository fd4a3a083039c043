-- A period: a run's days one after another, with what the figures of each cell and the totals of the grid add up to.
use Rattle.std.specs.Prelude.{◌≡◌, List, ℕ, ◌<◌, get_or}
use Rattle.theory.specs.Lists.{made}
use Rattle.theory.specs.Sums.{sum}
use Rattle.paper.specs.Setup.{Setup, cells}
use Rattle.paper.specs.State.{Day, fresh_state}
use Rattle.paper.specs.Refusals.{accepted}
use Rattle.paper.specs.Day.{Results, Totals, Outcome, no_results, day_of}
use Rattle.paper.specs.Run.{Standing, start, days}

-- from the fresh state, before any day has results
abbrev pub fresh_run : Setup → Standing
fresh_run s = start (fresh_state s) (no_results (cells s))

-- from where a run stands, over days counted from 0
module _ (s : Setup) (run : Standing) (day : ℕ → Day) where
  -- where it stands after the first k
  unfoldable pub after : ℕ → Standing
  after k = days s run (made k day)

  -- what day j does, from where the run stands before it
  unfoldable pub outcome_on : ℕ → Outcome
  outcome_on j = day_of s (after j).state (after j).results (day j)

  -- the first k are all accepted
  abbrev pub AllAccepted : ℕ → Type 0
  AllAccepted k = (j : ℕ) → j < k → (outcome_on j).verdict ≡ accepted

  -- a figure of cell i, added up over the first k days
  unfoldable pub summed : (Results → List ℕ) → ℕ → ℕ → ℕ
  summed figure k i = sum k (λ j. get_or (figure (outcome_on j).results) i 0)

  -- a total of the grid, added up over them
  unfoldable pub totalled : (Totals → ℕ) → ℕ → ℕ
  totalled part k = sum k (λ j. part (outcome_on j).totals)
