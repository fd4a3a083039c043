-- One cell's day by its plot and its way, as the code works it out: open water needs no case but its runoff, since its soil holds nothing and
-- no snow lies on it.
use Rattle.std.specs.Prelude.{Bool, cond, not, ◌||◌, List, ◌≡◌, ℕ, ◌+◌, ◌-◌, ◌≤◌, ◌<◌, eqb}
use Rattle.theory.specs.Sums.{given}
use Rattle.paper.specs.Limits.{most_gross, most_potential, most_snow, most_curve_number}
use Rattle.paper.specs.Snow.{melt}
use Rattle.paper.specs.Runoff.{runoff}
use Rattle.paper.specs.Soil.{SoilDay, soil_day}
use Rattle.paper.specs.CellDay.{Today, Figures}
use Rattle.covers.specs.Slots.{most_capacity}
use Rattle.recharge.specs.Depths.{gathered_limit, past32}
use Rattle.retention.specs.Retention.{table}
use Rattle.covers.specs.Plots.{Plot}
use Rattle.recharge.specs.declared.cell_day.Figures as code

abbrev pub figures_as : code.Figures → Figures
figures_as r =
    record {
      intercepted = r.intercepted;
      outflow = r.outflow;
      evapotranspired = r.evapotranspired;
      recharged = r.recharged;
      rejected = r.rejected;
      soil = r.soil;
      snow = r.snow;
    }

-- the numbers past the cells: over the edge, a closed depression, open water
abbrev pub over_the_edge : ℕ
over_the_edge = 4096

abbrev pub closed_way : ℕ
closed_way = 4097

abbrev pub open_water : ℕ
open_water = 4098

-- rain, and the melt of the store that the snowfall has joined
unfoldable pub own_by : Today → Plot → ℕ → ℕ
own_by t p snow = p.rain + melt (snow + p.snowfall) t.meltable

-- a closed depression
unfoldable pub closed_by : ℕ → Bool
closed_by way = eqb way closed_way

-- all of its water from open water, none from a closed depression, else what its curve number lets go
unfoldable pub runoff_by : Plot → ℕ → ℕ → ℕ
runoff_by p way w = cond (eqb way open_water) w (cond (closed_by way) 0 (runoff p.curve w))

unfoldable pub ground_by : Today → Plot → ℕ → ℕ → ℕ → SoilDay
ground_by t p way soil w = soil_day p.capacity p.largest soil (w - runoff_by p way w) t.potential

-- what is rejected runs on with the runoff, but not from a closed depression
unfoldable pub passed_by : Today → Plot → ℕ → ℕ → ℕ → ℕ
passed_by t p way soil w = runoff_by p way w + given (not (closed_by way)) (ground_by t p way soil w).rejected

-- the figures of a cell with that soil, that snow and water w
unfoldable pub figures_with : Today → Plot → ℕ → ℕ → ℕ → ℕ → Figures
figures_with t p way soil snow w =
    record {
      intercepted = p.intercepted;
      outflow = passed_by t p way soil w;
      evapotranspired = (ground_by t p way soil w).evapotranspired;
      recharged = (ground_by t p way soil w).recharged;
      rejected = (ground_by t p way soil w).rejected;
      soil = (ground_by t p way soil w).soil;
      snow = snow + p.snowfall - melt (snow + p.snowfall) t.meltable;
    }

-- and of one at which that much has arrived
unfoldable pub figures_by : Today → Plot → ℕ → ℕ → ℕ → ℕ → Figures
figures_by t p way soil snow arrived = figures_with t p way soil snow (own_by t p snow + arrived)

-- all of it leaves the grid over the edge and from open water
unfoldable pub gone_by : ℕ → Bool
gone_by way = eqb way over_the_edge || eqb way open_water

-- a plot within its limits
pub record PlotFits (p : Plot) : Type 0 where
  pub intercepted : p.intercepted ≤ most_gross
  pub rain : p.rain ≤ most_gross
  pub curve : p.curve ≤ most_curve_number
  pub capacity : p.capacity ≤ most_capacity

-- a day, a plot, stores and water within their limits
pub record CellReady (t : Today) (p : Plot) (soil snow arrived : ℕ) (f : List ℕ) : Type 0 where
  pub plot : PlotFits p
  pub potential : t.potential ≤ most_potential
  pub held : soil ≤ p.capacity
  pub lying : snow + p.snowfall ≤ most_snow
  pub wet : own_by t p snow + arrived < gathered_limit
  pub retained : f ≡ table

-- every figure fits 32 bits
pub record Fit32 (r : Figures) : Type 0 where
  pub intercepted : r.intercepted < past32
  pub outflow : r.outflow < past32
  pub evapotranspired : r.evapotranspired < past32
  pub recharged : r.recharged < past32
  pub rejected : r.rejected < past32
  pub soil : r.soil < past32
  pub snow : r.snow < past32
