-- The day record as the paper's.
use Rattle.std.specs.Prelude.{ℤ}
use Rattle.paper.specs.State.{Day}
use Rattle.records.specs.declared.quantities.TenthF.{TenthF}
use Rattle.records.specs.declared.days.DayRecord.{DayRecord}

abbrev pub tenths : TenthF → ℤ
tenths t = t.0

abbrev pub day_as : DayRecord → Day
day_as d =
    record {
      serial = d.serial;
      day_of_year = d.day_of_year;
      gross = d.gross.0;
      minimum = tenths d.minimum;
      mean = tenths d.mean;
      maximum = tenths d.maximum;
      potential = d.potential.0;
    }
