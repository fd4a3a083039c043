-- What the rules read of a day, as the paper's.
use Rattle.std.specs.Prelude.{true, false, cond, ◌&&◌, ◌≡◌}
use Rattle.paper.specs.Limits.{withinℤ, least_temperature, most_temperature}
use Rattle.paper.specs.Setup.{Climate}
use Rattle.paper.specs.State.{Past, Day, memory_fits, day_fits}
use Rattle.paper.specs.CellDay as paper
use Rattle.paper.specs.CurveNumber.{II}
use Rattle.records.specs.Days.{tenths}
use Rattle.records.specs.declared.quantities.TenthF.{TenthF}
use Rattle.weather.specs.Conditions.{condition_as}
use Rattle.weather.specs.declared.today.Today.{Today}

-- a temperature within the paper's limits
abbrev pub Measured : TenthF → Type 0
Measured t = withinℤ least_temperature most_temperature (tenths t) ≡ true

abbrev pub today_as : Today → paper.Today
today_as t =
    record {
      gross = t.gross.0;
      potential = t.potential.0;
      growing? = t.growing;
      snows? = t.snows;
      meltable = t.meltable.0;
      condition = condition_as t.condition;
    }

-- a day without weather
abbrev pub no_weather : paper.Today
no_weather =
    record { gross = 0; potential = 0; growing? = false; snows? = false; meltable = 0; condition = II }

-- of a day and a memory within their limits; of any other, a day without weather
unfoldable pub weather_of : Climate → Past → Day → paper.Today
weather_of c p d = cond (day_fits d && memory_fits p.memory) (paper.today c p d) no_weather
