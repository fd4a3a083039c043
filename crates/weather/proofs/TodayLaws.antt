-- What a day and a memory that fit are known to be, and what is read of them.
use mathlib.Core.Path.{◌≡◌, refl}
use mathlib.Core.Bool.{true, false}
use Prim.Native.Nat.{ℕ, ◌≤◌}
use borrow.Author.Tests.{leb-true, le-leb}
use Rattle.theory.proofs.Cases.{and_left, and_right}
use Rattle.paper.specs.Limits.{withinℤ, least_temperature, most_temperature, most_gross, most_potential, least_curve_number, most_curve_number}
use Rattle.paper.specs.Setup.{Climate}
use Rattle.paper.specs.State.{Memory, Past, Day, day_fits, memory_fits}
use Rattle.paper.specs.CurveNumber.{Condition, curve_number}
use Rattle.paper.specs.CellDay.{today}
use Rattle.weather.specs.Conditions.{FiveFit, curve_number_by}
use Rattle.weather.specs.Today.{no_weather, weather_of}

-- what the rules ask of a day
pub record DayKnown (d : Day) : Type 0 where
  pub gross : d.gross ≤ most_gross
  pub minimum : withinℤ least_temperature most_temperature d.minimum ≡ true
  pub mean : withinℤ least_temperature most_temperature d.mean ≡ true
  pub maximum : withinℤ least_temperature most_temperature d.maximum ≡ true
  pub potential : d.potential ≤ most_potential

pub day_known : (d : Day) → day_fits d ≡ true → DayKnown d
unfolding day_fits
day_known d h =
    record {
      gross = leb-true _ _ (search (and_left, and_right) depth 12);
      minimum = search (and_left, and_right) depth 12;
      mean = search (and_left, and_right) depth 12;
      maximum = search (and_left, and_right) depth 12;
      potential = leb-true _ _ (search (and_left, and_right) depth 12);
    }

pub five_fit : (m : Memory) → memory_fits m ≡ true → FiveFit m
unfolding memory_fits
five_fit m h =
    record {
      oldest = leb-true _ _ (search (and_left, and_right) depth 9);
      fourth = leb-true _ _ (search (and_left, and_right) depth 9);
      third = leb-true _ _ (search (and_left, and_right) depth 9);
      second = leb-true _ _ (search (and_left, and_right) depth 9);
      yesterday = leb-true _ _ (search (and_left, and_right) depth 9);
    }

module _ (c : Climate) (p : Past) (d : Day) where
  pub today_fits : day_fits d ≡ true → memory_fits p.memory ≡ true → weather_of c p d ≡ today c p d
  unfolding weather_of
  today_fits day memory = rw (day, memory) refl

  pub no_day : day_fits d ≡ false → no_weather ≡ weather_of c p d
  unfolding weather_of
  no_day day = rw day refl

  pub no_memory : day_fits d ≡ true → memory_fits p.memory ≡ false → no_weather ≡ weather_of c p d
  unfolding weather_of
  no_memory day memory = rw (day, memory) refl

-- a table's number is read in its condition
pub table_number : (c : Condition) (N : ℕ) → least_curve_number ≤ N → N ≤ most_curve_number → curve_number_by c N ≡ curve_number c N
unfolding curve_number_by
table_number c N low high = rw (le-leb _ _ low, le-leb _ _ high) refl
