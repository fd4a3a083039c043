-- One cell's day, rules 1 to 8.
use Rattle.std.specs.Prelude.{Bool, cond, not, ℕ, ◌+◌, ◌-◌}
use Rattle.theory.specs.Sums.{given}
use Rattle.paper.specs.Setup.{Climate, Cell, growing}
use Rattle.paper.specs.State.{Past, Day, five_days}
use Rattle.paper.specs.Interception.{intercepted, net}
use Rattle.paper.specs.Snow.{falls_as_snow, meltable, melt}
use Rattle.paper.specs.CurveNumber.{Condition, condition_of, curve_number}
use Rattle.paper.specs.Frost.{frost_after, counted}
use Rattle.paper.specs.Runoff.{runoff}
use Rattle.paper.specs.Soil.{SoilDay, soil_day}

-- what the rules read of the day: alike for every cell
pub record Today : Type 0 where
  pub gross : ℕ
  pub potential : ℕ
  pub growing? : Bool
  -- net falls as snow
  pub snows? : Bool
  -- what a store can lose to melt
  pub meltable : ℕ
  pub condition : Condition

-- the frost index that the day has just set decides its condition
unfoldable pub today : Climate → Past → Day → Today
today c p d =
    record {
      gross = d.gross;
      potential = d.potential;
      growing? = growing c.season d.day_of_year;
      snows? = falls_as_snow d.minimum d.mean d.maximum;
      meltable = meltable d.maximum;
      condition =
          counted c.setpoints (frost_after p.frost d.mean)
          (condition_of (growing c.season d.day_of_year) (five_days p.memory));
    }

-- rule 2, by the season
unfoldable pub figure_of : Cell → Today → ℕ
figure_of c t = cond t.growing? c.growing_figure c.dormant_figure

unfoldable pub intercepted_of : Cell → Today → ℕ
intercepted_of c t = intercepted t.gross (figure_of c t)

unfoldable pub net_of : Cell → Today → ℕ
net_of c t = net t.gross (figure_of c t)

-- rule 3: the store that the snowfall has joined, and the melt
unfoldable pub rain_of : Cell → Today → ℕ
rain_of c t = given (not t.snows?) (net_of c t)

unfoldable pub store_of : Cell → Today → ℕ → ℕ
store_of c t snow = snow + given t.snows? (net_of c t)

unfoldable pub melt_of : Cell → Today → ℕ → ℕ
melt_of c t snow = melt (store_of c t snow) t.meltable

-- rules 1 and 4: the water of the cell's own, to which the outflows of all cells pointing here are added
unfoldable pub own_of : Cell → Today → ℕ → ℕ
own_of c t snow = cond c.open? t.gross (rain_of c t + melt_of c t snow)

-- rules 5 and 6: the runoff for water w
unfoldable pub runoff_of : Cell → Today → ℕ → ℕ
runoff_of c t w = cond c.closed? 0 (runoff (curve_number t.condition c.N) w)

-- rules 7 and 8, with infiltration n = w - runoff
unfoldable pub ground_of : Cell → Today → ℕ → ℕ → SoilDay
ground_of c t soil w = soil_day c.capacity c.largest soil (w - runoff_of c t w) t.potential

-- the outflow for water w: rejected recharge joins the runoff and runs on downhill (02, M-104); open water passes off all, and a closed
-- depression nothing
unfoldable pub passed_of : Cell → Today → ℕ → ℕ → ℕ
passed_of c t soil w = cond c.open? w (cond c.closed? 0 (runoff_of c t w + (ground_of c t soil w).rejected))

-- the figures of one cell's day
pub record Figures : Type 0 where
  pub intercepted : ℕ
  pub outflow : ℕ
  pub evapotranspired : ℕ
  pub recharged : ℕ
  pub rejected : ℕ
  pub soil : ℕ
  pub snow : ℕ

-- rule 1: gross precipitation and inflow leave the grid, all else is 0
unfoldable pub open_day : ℕ → Figures
open_day w =
    record { intercepted = 0; outflow = w; evapotranspired = 0; recharged = 0; rejected = 0; soil = 0; snow = 0 }

-- rules 2 to 8, with water w
unfoldable pub land_day : Cell → Today → ℕ → ℕ → ℕ → Figures
land_day c t soil snow w =
    record {
      intercepted = intercepted_of c t;
      outflow = passed_of c t soil w;
      evapotranspired = (ground_of c t soil w).evapotranspired;
      recharged = (ground_of c t soil w).recharged;
      rejected = (ground_of c t soil w).rejected;
      soil = (ground_of c t soil w).soil;
      snow = store_of c t snow - melt_of c t snow;
    }

unfoldable pub cell_day : Cell → Today → ℕ → ℕ → ℕ → Figures
cell_day c t soil snow inflow =
    cond c.open? (open_day (own_of c t snow + inflow)) (land_day c t soil snow (own_of c t snow + inflow))
