-- A past whose figures fit the lent numbers.
use Rattle.std.specs.Prelude.{ℕ, ◌<◌}
use Rattle.paper.specs.State.{Memory, Past}

-- one more than the largest number of 32 bits
abbrev pub narrow : ℕ
narrow = 4294967296

pub record NarrowMemory (m : Memory) : Type 0 where
  pub oldest : m.oldest < narrow
  pub fourth : m.fourth < narrow
  pub third : m.third < narrow
  pub second : m.second < narrow
  pub yesterday : m.yesterday < narrow

pub record Narrow (p : Past) : Type 0 where
  pub memory : NarrowMemory p.memory
  pub frost : p.frost < narrow
