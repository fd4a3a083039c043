-- Rule 3, snow (004).
use Rattle.std.specs.Prelude.{Bool, ℕ, ◌-◌, ◌*◌, ◌/◌, min, ℤ, pos, negsuc, ◌-ℤ◌, ◌*ℤ◌}
use Rattle.std.specs.Int.Signed.{le_z}

-- net falls as snow if 3 × mean - (maximum - minimum) ≤ 960, else rain
unfoldable pub falls_as_snow : ℤ → ℤ → ℤ → Bool
falls_as_snow minimum mean maximum = le_z (pos 3 *ℤ mean -ℤ (maximum -ℤ minimum)) (pos 960)

-- tenths of a degree Fahrenheit
abbrev pub freezing : ℕ
freezing = 320

-- maximum - 320 where maximum > 320, else 0
unfoldable pub above_freezing : ℤ → ℕ
above_freezing (pos maximum) = maximum - freezing
above_freezing (negsuc below) = 0

-- floor(12,500 × (maximum - 320) / 381), from 1.5 mm per degree Celsius (M-100)
unfoldable pub meltable : ℤ → ℕ
meltable maximum = 12500 * above_freezing maximum / 381

-- the melt of a store that the day's snowfall has joined
unfoldable pub melt : ℕ → ℕ → ℕ
melt store most = min store most
