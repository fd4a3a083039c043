-- The largest depths that the rules' code meets.
use Rattle.std.specs.Prelude.{ℕ}

-- the rules' own limit: above the water of a cell to which eight others pass as much as 32 bits hold
abbrev pub water_limit : ℕ
water_limit = 34359738368

-- above all water that a day can bring to one cell of the largest grid
abbrev pub gathered_limit : ℕ
gathered_limit = 2000000000

-- more than any day's maximum melts
abbrev pub melt_limit : ℕ
melt_limit = 50000

-- what does not fit 32 bits
abbrev pub past32 : ℕ
past32 = 4294967296
