-- The limits of documents 01 and 02. A depth is in units of 0.0001 inch, a temperature in tenths of a degree Fahrenheit.
use Rattle.std.specs.Prelude.{Bool, ◌&&◌, ℕ, leb, ℤ, pos, negsuc}
use Rattle.std.specs.Int.Signed.{le_z}

-- Setup
abbrev pub most_cells : ℕ
most_cells = 4096

abbrev pub last_day_of_year : ℕ
last_day_of_year = 366

abbrev pub most_covers : ℕ
most_covers = 64

abbrev pub most_code : ℕ
most_code = 255

abbrev pub least_curve_number : ℕ
least_curve_number = 30

abbrev pub most_curve_number : ℕ
most_curve_number = 100

abbrev pub most_largest_recharge : ℕ
most_largest_recharge = 100000

abbrev pub most_interception : ℕ
most_interception = 10000

-- hundredths of a foot
abbrev pub most_root_depth : ℕ
most_root_depth = 1000

-- hundredths of an inch per foot
abbrev pub most_available_water : ℕ
most_available_water = 600

-- the setpoints of the frost index, in thousandths of a Celsius degree-day
abbrev pub most_setpoint : ℕ
most_setpoint = 2000000

-- State and the day record
abbrev pub most_snow : ℕ
most_snow = 10000000

abbrev pub most_gross : ℕ
most_gross = 400000

abbrev pub most_serial : ℕ
most_serial = 9999999

-- thousandths of a Celsius degree-day
abbrev pub most_frost : ℕ
most_frost = 2500000

abbrev pub least_temperature : ℤ
least_temperature = negsuc 999

abbrev pub most_temperature : ℤ
most_temperature = pos 1500

abbrev pub most_potential : ℕ
most_potential = 20000

-- from low to high, both ends counted
abbrev pub within : ℕ → ℕ → ℕ → Bool
within low high x = leb low x && leb x high

abbrev pub withinℤ : ℤ → ℤ → ℤ → Bool
withinℤ low high x = le_z low x && le_z x high
