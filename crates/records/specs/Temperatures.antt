-- How far a temperature of 32 bits is from freezing. The paper's `above_freezing` is the one side, `below_freezing` the other.
use Rattle.std.specs.Prelude.{ℕ, suc, ◌+◌, ◌-◌, ℤ, pos, negsuc}
use Rattle.paper.specs.Snow.{freezing}

-- 320 - temperature where temperature < 320, else 0
unfoldable pub below_freezing : ℤ → ℕ
below_freezing (pos temperature) = freezing - temperature
below_freezing (negsuc below) = freezing + suc below

-- every such distance is below this
abbrev pub farthest : ℕ
farthest = 4294967296
