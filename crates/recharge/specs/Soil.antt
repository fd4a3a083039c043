-- The code's figures of the soil as the paper's.
use Rattle.paper.specs.Soil as paper
use Rattle.recharge.specs.declared.soil.SoilDay.{SoilDay}

abbrev pub soil_day_as : SoilDay → paper.SoilDay
soil_day_as d =
    record { evapotranspired = d.evapotranspired.0; recharged = d.recharged.0; rejected = d.rejected.0; soil = d.soil.0 }
