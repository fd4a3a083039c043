-- A line of a station's readings (02, M-103): whole numbers, 1 T R H for Turc's estimate and 2 T R for Jensen and Haise's, T in tenths of a degree Celsius.
use Rattle.std.specs.Prelude.{Bool, false, cond, List, [], ◌∷◌, ℕ, suc, eqb, Float, ℤ, pos, negsuc, Option, Some, None}
use Rattle.std.specs.Float.Ieee.{neg}
use Rattle.paper.specs.Radiation.{◌⊘◌, whole, turc, jensen_haise, Weather}
use Rattle.lines.specs.Reading.{Reading}
use Rattle.radiation.specs.Estimates.{weather_as}
use Rattle.radiation.specs.declared.weather.Weather as code

-- what a line asks for: the estimate of a day's weather, or nothing, where it has another form
pub data Line : Type 0 where
  estimate : Weather → Line
  malformed : Line

-- a whole number in binary64, which holds it
unfoldable pub reading_of : ℤ → Float
reading_of (pos n) = whole n
reading_of (negsuc m) = neg (whole (suc m))

-- tenths of a degree, divided once
unfoldable pub celsius_of : ℤ → Float
celsius_of tenths = reading_of tenths ⊘ whole 10

abbrev pub turc_line : ℤ → ℤ → ℤ → Line
turc_line t r h = estimate (record { mean = celsius_of t; estimate = turc (reading_of r) (reading_of h) })

abbrev pub jensen_haise_line : ℤ → ℤ → Line
jensen_haise_line t r = estimate (record { mean = celsius_of t; estimate = jensen_haise (reading_of r) })

unfoldable pub is_kind : ℕ → ℤ → Bool
is_kind kind (pos n) = eqb n kind
is_kind kind (negsuc m) = false

-- by the line's numbers: those of one estimate, no fewer and no more
unfoldable pub line_of : List ℤ → Line
line_of [] = malformed
line_of (kind ∷ []) = malformed
line_of (kind ∷ t ∷ []) = malformed
line_of (kind ∷ t ∷ r ∷ []) = cond (is_kind 2 kind) (jensen_haise_line t r) malformed
line_of (kind ∷ t ∷ r ∷ h ∷ []) = cond (is_kind 1 kind) (turc_line t r h) malformed
line_of (kind ∷ t ∷ r ∷ h ∷ more ∷ ns) = malformed

-- each word of which is a number
unfoldable pub line_in : Reading → Line
line_in r = cond r.whole (line_of r.numbers) malformed

-- the code's line as this one
abbrev pub line_as : Option code.Weather → Line
line_as (Some w) = estimate (weather_as w)
line_as None = malformed
