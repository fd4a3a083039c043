-- The setup and the days of the input's numbers, for every list of numbers: each list of the cells at the front of an array.
use Rattle.std.specs.Prelude.{List, ◌++◌, ◌≡◌, ℕ, ◌+◌, ◌*◌, ◌-◌, min, ℤ, length, get_or, take, replicate}
use Rattle.paper.specs.Limits.{most_cells}
use Rattle.paper.specs.State.{Day}
use Rattle.lines.specs.Reading.{no_number, signed}
use Rattle.records.specs.declared.grids.Grid.{Grid}
use Rattle.records.specs.declared.grids.Climate.{Climate}
use Rattle.records.specs.declared.setups.Setup.{Setup}
use Rattle.text.specs.Program.{field, balance_setpoints, setup}

-- the first four numbers, and the program's setpoints
abbrev pub grid_in : List ℕ → Grid
grid_in ns = record { width = get_or ns 0 0; height = get_or ns 1 0 }

abbrev pub climate_in : List ℕ → Climate
climate_in ns =
    record {
      season = record { first = get_or ns 2 0; last = get_or ns 3 0 };
      setpoints = record { first = record { 0 = balance_setpoints.first }; second = record { 0 = balance_setpoints.second } };
    }

-- a list of the cells at the front of an array that holds the most there can be: what is past that is cut, and past the cells stand zeros
unfoldable pub held : List ℕ → List ℕ
held l = take most_cells l ++ replicate (most_cells - length l) 0

-- a temperature has its sign back; a code that is no number's reads as the lowest number, which no day has
unfoldable pub degrees : ℕ → ℤ
degrees c = signed (min c (no_number - 1))

-- day k of days that begin at `from`; past the numbers stand zeros
unfoldable pub day_from : List ℕ → ℕ → ℕ → Day
day_from ns from k =
    record {
      serial = field ns (from + 7 * k);
      day_of_year = field ns (from + 7 * k + 1);
      gross = field ns (from + 7 * k + 2);
      minimum = degrees (field ns (from + 7 * k + 3));
      mean = degrees (field ns (from + 7 * k + 4));
      maximum = degrees (field ns (from + 7 * k + 5));
      potential = field ns (from + 7 * k + 6);
    }

pub record Laid (ns : List ℕ) (s : Setup) : Type 0 where
  pub grid : s.grid ≡ grid_in ns
  pub climate : s.climate ≡ climate_in ns
  pub table : s.covers.now ≡ (setup ns).covers
  pub directions : s.direction.now ≡ (setup ns).direction
  pub codes : s.cover.now ≡ (setup ns).cover
  pub groups : s.group.now ≡ (setup ns).group
  pub waters : s.available.now ≡ (setup ns).available
