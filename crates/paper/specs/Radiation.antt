-- Potential evapotranspiration from radiation (02, M-103), in binary64: each operation rounded once, in the order written.
use Rattle.std.specs.Prelude.{Bool, false, cond, ◌&&◌, ℕ, ◌*◌, ◌/◌, Float}
use Rattle.std.specs.Float.{nan, inf, fin, binary64}
use Rattle.std.specs.Float.Ieee.{up, down, round, neg, add, sub, mul, div, lt, le}

-- the four operations, each rounded once
infixl 65 ◌⊕◌ ◌⊖◌
infixl 70 ◌⊗◌ ◌⊘◌
abbrev pub ◌⊕◌ : Float → Float → Float
x ⊕ y = add binary64 x y

abbrev pub ◌⊖◌ : Float → Float → Float
x ⊖ y = sub binary64 x y

abbrev pub ◌⊗◌ : Float → Float → Float
x ⊗ y = mul binary64 x y

abbrev pub ◌⊘◌ : Float → Float → Float
x ⊘ y = div binary64 x y

-- a decimal, n / d, rounded once; and a whole number, exact up to 2 ^ 53
unfoldable pub decimal : ℕ → ℕ → Float
decimal n d = round binary64 false n d

unfoldable pub whole : ℕ → Float
whole n = decimal n 1

-- the chosen estimate with its own readings
pub data Estimate : Type 0 where
  -- radiation R in cal/cm² a day, and humidity H
  turc : Float → Float → Estimate
  -- radiation alone
  jensen_haise : Float → Estimate

-- a day's weather: mean Celsius T and the chosen estimate
pub record Weather : Type 0 where
  pub mean : Float
  pub estimate : Estimate

-- 13: from low to high, both ends counted; what is not a number is nowhere
unfoldable pub between : Float → Float → Float → Bool
between low high x = le low x && le x high

unfoldable pub mean_fits : Float → Bool
mean_fits t = between (neg (whole 60)) (whole 60) t

unfoldable pub radiation_fits : Float → Bool
radiation_fits r = between (whole 0) (whole 1000) r

unfoldable pub humidity_fits : Float → Bool
humidity_fits h = between (whole 0) (whole 100) h

unfoldable pub estimate_fits : Estimate → Bool
estimate_fits (turc r h) = radiation_fits r && humidity_fits h
estimate_fits (jensen_haise r) = radiation_fits r

unfoldable pub weather_fits : Weather → Bool
weather_fits w = mean_fits w.mean && estimate_fits w.estimate

-- ((0.013 × T) / (T + 15)) × (R + 50)
unfoldable pub humid : Float → Float → Float
humid t r = ((decimal 13 1000 ⊗ t) ⊘ (t ⊕ whole 15)) ⊗ (r ⊕ whole 50)

-- times (1 + (50 - H) / 70) if H < 50
unfoldable pub dryness : Float → Float
dryness h = whole 1 ⊕ (whole 50 ⊖ h) ⊘ whole 70

-- 0 if T ≤ 0
unfoldable pub turc_of : Float → Float → Float → Float
turc_of t r h = cond (le t (whole 0)) (whole 0) (cond (lt h (whole 50)) (humid t r ⊗ dryness h) (humid t r))

-- (R / 59) × (0.025 × T + 0.08), or 0 if that is below 0
unfoldable pub jensen_haise_by : Float → Float → Float
jensen_haise_by t r = (r ⊘ whole 59) ⊗ (decimal 25 1000 ⊗ t ⊕ decimal 8 100)

unfoldable pub jensen_haise_of : Float → Float → Float
jensen_haise_of t r = cond (lt (jensen_haise_by t r) (whole 0)) (whole 0) (jensen_haise_by t r)

unfoldable pub millimetres : Float → Estimate → Float
millimetres t (turc r h) = turc_of t r h
millimetres t (jensen_haise r) = jensen_haise_of t r

-- the millimetres times 100,000, divided by 254, give units
unfoldable pub units_of : Float → Float
units_of mm = mm ⊗ whole 100000 ⊘ whole 254

-- the greatest whole number not above a value that is not below zero
unfoldable pub floor_of : Float → ℕ
floor_of nan = 0
floor_of (inf s) = 0
floor_of (fin s m e) = cond s 0 (m * up e / down e)

unfoldable pub potential_of : Weather → ℕ
potential_of w = floor_of (units_of (millimetres w.mean w.estimate))

-- what comes back: an estimate, or that a reading is outside its limits or is not a number
pub data Estimated : Type 0 where
  estimated : ℕ → Estimated
  readings : Estimated

-- the refusal's number and place: 0 and 0 where there is an estimate
unfoldable pub estimate_number : Estimated → ℕ
estimate_number (estimated n) = 0
estimate_number readings = 13

unfoldable pub estimate_place : Estimated → ℕ
estimate_place (estimated n) = 0
estimate_place readings = 0

-- refused, the estimate is 0
unfoldable pub estimate_units : Estimated → ℕ
estimate_units (estimated n) = n
estimate_units readings = 0

unfoldable pub estimated_of : Weather → Estimated
estimated_of w = cond (weather_fits w) (estimated (potential_of w)) readings
