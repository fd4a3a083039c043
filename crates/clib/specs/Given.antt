-- What C hands over as the paper's setup and day.
use Rattle.std.specs.Prelude.{List, ℕ}
use Rattle.paper.specs.Setup as paper
use Rattle.paper.specs.State.{Day}
use Rattle.clib.specs.declared.given.Site.{Site}
use Rattle.clib.specs.declared.given.DayNumbers.{DayNumbers}

abbrev pub grid_from : Site → paper.Grid
grid_from s = record { width = s.width; height = s.height }

abbrev pub climate_from : Site → paper.Climate
climate_from s =
    record {
      season = record { first = s.first_growing; last = s.last_growing };
      setpoints = record { first = s.first_setpoint; second = s.second_setpoint };
    }

-- with the lent cover table, directions, cover codes, groups and available water
abbrev pub setup_from : Site → List ℕ → List ℕ → List ℕ → List ℕ → List ℕ → paper.Setup
setup_from s covers direction cover group available =
    record {
      grid = grid_from s;
      climate = climate_from s;
      covers = covers;
      direction = direction;
      cover = cover;
      group = group;
      available = available;
    }

abbrev pub day_from : DayNumbers → Day
day_from d =
    record {
      serial = d.serial;
      day_of_year = d.day_of_year;
      gross = d.gross;
      minimum = d.minimum;
      mean = d.mean;
      maximum = d.maximum;
      potential = d.potential;
    }
