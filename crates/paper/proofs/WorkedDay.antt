-- The worked day of document 01 as M-104 amends it, cell by cell, as one table that computes: what cell 0 rejects runs on to cell 1. As a closed
-- depression that rejects it again, and it leaves the balance; where its direction leaves the grid it is passed out and gone; open water passes it off.
use mathlib.Core.Path.{◌≡◌, refl}
use mathlib.Core.List.{List, [], ◌∷◌, ◌++◌}
use Prim.Native.Nat.{ℕ, ◌+◌}
use lib.IntN.{pos}
use Rattle.theory.specs.Lowest.{or_at, lowest}
use Rattle.theory.specs.Sums.{sum, given}
use Rattle.paper.specs.Covers.{entries}
use Rattle.paper.specs.Directions.{way_of, stepped, cell_at, goes_by}
use Rattle.paper.specs.Setup.{Setup, cell, cells_of, growing, place_or, entry_of, is_open, goes, pointed, next, is_closed}
use Rattle.paper.specs.State.{State, no_past, five_days}
use Rattle.paper.specs.Interception.{intercepted, net}
use Rattle.paper.specs.Snow.{falls_as_snow, above_freezing, meltable, melt}
use Rattle.paper.specs.CurveNumber.{class, condition_of, nearest, curve_number}
use Rattle.paper.specs.Frost.{floor, or_zero, frost_after, not_dry, counted}
use Rattle.paper.specs.Runoff.{beyond_abstraction, spread, runoff}
use Rattle.paper.specs.Soil.{excess, wet_day, dry_day, soil_day}
use Rattle.paper.specs.CellDay.{Today, today, figure_of, intercepted_of, net_of, rain_of, store_of, melt_of, own_of, runoff_of, ground_of, passed_of, Figures, open_day, land_day, cell_day}
use Rattle.paper.specs.Flow.{arriving, water_from, water}
use Rattle.paper.specs.Day.{passed, own, inflow, figures, is_leaving, is_gone, Totals, totals_of}

-- the paper's grass and, as code 9, open water
abbrev covers : List ℕ
covers =
    (3 ∷ 0 ∷ 75 ∷ 75 ∷ 75 ∷ 75 ∷ 6000 ∷ 6000 ∷ 6000 ∷ 6000 ∷ 900 ∷ 0 ∷ 250 ∷ 250 ∷ 250 ∷ 250 ∷ [])
    ++ (9 ∷ 1 ∷ 30 ∷ 30 ∷ 30 ∷ 30 ∷ 0 ∷ 0 ∷ 0 ∷ 0 ∷ 0 ∷ 0 ∷ 0 ∷ 0 ∷ 0 ∷ 0 ∷ [])

-- cell 0 drains to cell 1, which has the given direction and cover
abbrev grid : ℕ → ℕ → Setup
grid direction cover =
    record {
      grid = record { width = 2; height = 1 };
      climate = record { season = record { first = 120; last = 270 }; setpoints = record { first = 56000; second = 83000 } };
      covers = covers;
      direction = 1 ∷ direction ∷ [];
      cover = 3 ∷ cover ∷ [];
      group = 2 ∷ 2 ∷ [];
      available = 200 ∷ 200 ∷ [];
    }

abbrev full : ℕ → State
full soil = record { soil = 50000 ∷ soil ∷ []; snow = 0 ∷ 0 ∷ []; past = no_past }

-- 3.09 inches of rain, of which the grass catches 0.09
abbrev rain : Setup → Today
rain s =
    today s.climate no_past
    (record { serial = 1; day_of_year = 150; gross = 30900; minimum = pos 600; mean = pos 700; maximum = pos 800; potential = 2000 })

-- cell 1 a closed depression, as in the paper, draining over the edge, and open water
abbrev hollow : Setup
hollow = grid 0 3

abbrev slope : Setup
slope = grid 1 3

abbrev lake : Setup
lake = grid 1 9

abbrev land_figures : ℕ → ℕ → Figures
land_figures outflow rejected =
    record {
      intercepted = 900;
      outflow = outflow;
      evapotranspired = 2000;
      recharged = 6000;
      rejected = rejected;
      soil = 50000;
      snow = 0;
    }

abbrev day : Setup → ℕ → ℕ → Figures
day s soil = figures s (full soil) (rain s)

abbrev totals : Setup → ℕ → Totals
totals s soil = totals_of s 30900 (day s soil)

pub record WorkedDay : Type 0 where
  -- of its 30,000 units cell 0 lets 2,461 run off; 27,539 sink in, 2,000 evaporate, 6,000 recharge, and 19,539 are rejected
  pub runs_off : runoff_of (cell hollow 0) (rain hollow) 30000 ≡ 2461
  -- 2,461 + 19,539 run on
  pub above : day hollow 50000 0 ≡ land_figures 22000 19539
  -- the water of cell 1
  pub reached : own hollow (full 50000) (rain hollow) 1 + inflow hollow (full 50000) (rain hollow) 1 ≡ 52000
  pub in_a_hollow : day hollow 50000 1 ≡ land_figures 0 44000
  -- the total is all from cell 1
  pub hollow_totals :
      totals hollow 50000
      ≡ record { gross = 61800; intercepted = 1800; evapotranspired = 4000; recharged = 12000; rejected = 44000; gone = 0; stored = 100000 }
  -- the same water on a slope: 12,127 run off, 31,873 are rejected, and both are gone over the edge
  pub on_a_slope_lem : day slope 50000 1 ≡ land_figures 44000 31873
  pub slope_totals :
      totals slope 50000
      ≡ record { gross = 61800; intercepted = 1800; evapotranspired = 4000; recharged = 12000; rejected = 0; gone = 44000; stored = 100000 }
  -- and into a lake, on which another 30,900 fall
  pub in_a_lake : day lake 0 1 ≡ open_day 52900
  pub lake_totals :
      totals lake 0
      ≡ record { gross = 61800; intercepted = 900; evapotranspired = 2000; recharged = 6000; rejected = 0; gone = 52900; stored = 50000 }

pub worked_day : WorkedDay
unfolding
    or_at lowest sum given entries way_of stepped cell_at goes_by cell cells_of growing place_or entry_of is_open goes pointed next is_closed five_days intercepted
    net falls_as_snow above_freezing meltable melt class condition_of nearest curve_number floor or_zero frost_after not_dry counted beyond_abstraction spread runoff excess
    wet_day dry_day soil_day today figure_of intercepted_of net_of rain_of store_of melt_of own_of runoff_of ground_of passed_of open_day land_day cell_day arriving
    water_from water passed own inflow figures is_leaving is_gone totals_of
worked_day =
    record {
      runs_off = refl;
      above = refl;
      reached = refl;
      in_a_hollow = refl;
      hollow_totals = refl;
      on_a_slope_lem = refl;
      slope_totals = refl;
      in_a_lake = refl;
      lake_totals = refl;
    }
