-- The grid, the climate and the lent slices as the paper's setup.
use Rattle.std.specs.Prelude.{List, ℕ}
use Rattle.paper.specs.Setup as paper
use Rattle.records.specs.declared.grids.Grid.{Grid}
use Rattle.records.specs.declared.grids.Season.{Season}
use Rattle.records.specs.declared.grids.Setpoints.{Setpoints}
use Rattle.records.specs.declared.grids.Climate.{Climate}
use Rattle.records.specs.declared.setups.Setup.{Setup}

abbrev pub grid_as : Grid → paper.Grid
grid_as g = record { width = g.width; height = g.height }

abbrev pub season_as : Season → paper.Season
season_as s = record { first = s.first; last = s.last }

abbrev pub setpoints_as : Setpoints → paper.Setpoints
setpoints_as s = record { first = s.first.0; second = s.second.0 }

abbrev pub climate_as : Climate → paper.Climate
climate_as c = record { season = season_as c.season; setpoints = setpoints_as c.setpoints }

-- with the lent cover table, directions, cover codes, groups and available water
abbrev pub setup_as : Grid → Climate → List ℕ → List ℕ → List ℕ → List ℕ → List ℕ → paper.Setup
setup_as g c covers direction cover group available =
    record {
      grid = grid_as g;
      climate = climate_as c;
      covers = covers;
      direction = direction;
      cover = cover;
      group = group;
      available = available;
    }

abbrev pub setup_of : Setup → paper.Setup
setup_of s = setup_as s.grid s.climate s.covers.now s.direction.now s.cover.now s.group.now s.available.now
