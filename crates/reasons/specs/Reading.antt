-- What the reasons speak of, read back from a cell's figures: the soil's account, the outflow less what is rejected, and both shares of the excess.
use Rattle.std.specs.Prelude.{List, ℕ, ◌+◌, ◌-◌, get_or}
use Rattle.paper.specs.Reasons.{Facts}
use Rattle.reasons.specs.Grounds.{Ground}
use Rattle.reasons.specs.declared.reading.Left as code
use Rattle.reasons.specs.declared.reading.Facts as asked

-- what a day left of a cell
pub record Left : Type 0 where
  pub outflow : ℕ
  pub evapotranspired : ℕ
  pub recharged : ℕ
  pub rejected : ℕ
  pub soil : ℕ
  pub snow : ℕ

abbrev pub left_as : code.Left → Left
left_as r =
    record {
      outflow = r.outflow;
      evapotranspired = r.evapotranspired;
      recharged = r.recharged;
      rejected = r.rejected;
      soil = r.soil;
      snow = r.snow;
    }

-- what six lists hold of a cell
abbrev pub left_by : List ℕ → List ℕ → List ℕ → List ℕ → List ℕ → List ℕ → ℕ → Left
left_by outflow evapotranspired recharged rejected soil snow i =
    record {
      outflow = get_or outflow i 0;
      evapotranspired = get_or evapotranspired i 0;
      recharged = get_or recharged i 0;
      rejected = get_or rejected i 0;
      soil = get_or soil i 0;
      snow = get_or snow i 0;
    }

-- from the soil before the day
unfoldable pub infiltration_from : ℕ → Left → ℕ
infiltration_from before r = r.evapotranspired + r.recharged + r.rejected + r.soil - before

unfoldable pub facts_from : Ground → ℕ → ℕ → ℕ → Left → Facts
facts_from g gross potential before r =
    record {
      open? = g.open?;
      gross = gross;
      inflow = r.outflow - gross;
      water = infiltration_from before r + (r.outflow - r.rejected);
      end_snow = r.snow;
      infiltration = infiltration_from before r;
      potential = potential;
      surplus = infiltration_from before r - potential;
      room = g.capacity - before;
      excess = r.recharged + r.rejected;
      recharged = r.recharged;
      largest = g.largest;
    }

-- the code's facts as the paper's; it keeps no figure of what recharged
abbrev pub facts_as : asked.Facts → ℕ → Facts
facts_as f recharged =
    record {
      open? = f.open_water;
      gross = f.gross.0;
      inflow = f.inflow.0;
      water = f.water.0;
      end_snow = f.end_snow.0;
      infiltration = f.infiltration.0;
      potential = f.potential.0;
      surplus = f.surplus.0;
      room = f.room.0;
      excess = f.excess.0;
      recharged = recharged;
      largest = f.largest.0;
    }
