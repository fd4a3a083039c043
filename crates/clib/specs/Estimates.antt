-- An estimate from radiation as C hands over its readings and gets it: what the call returns, and what it writes.
use Rattle.std.specs.Prelude.{ℕ, Float}
use Rattle.paper.specs.Radiation as paper
use Rattle.clib.specs.Numbers.{numbered}

abbrev pub weather_from : Float → paper.Estimate → paper.Weather
weather_from mean estimate = record { mean = mean; estimate = estimate }

pub record Given : Type 0 where
  pub number : ℕ
  pub potential : ℕ

abbrev pub estimate : ℕ → ℕ → Given
estimate number potential = record { number = number; potential = potential }

unfoldable pub estimate_given : paper.Estimated → Given
estimate_given e = estimate (numbered (paper.estimate_number e) (paper.estimate_place e)) (paper.estimate_units e)
