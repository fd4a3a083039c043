-- `today::weather_of` meets its contract: a day and a memory that fit have what the rules ask, and each field is a rule's own result.
use Rattle.std.proofs.Common.{Bool, ap, ◌∙◌}
use Rattle.paper.specs.State.{five_days}
use Rattle.paper.specs.CurveNumber.{condition_of}
use Rattle.paper.specs.Frost.{counted}
use Rattle.paper.specs.CellDay.{today}
use Rattle.records.specs.Grids.{setpoints_as}
use Rattle.records.specs.Past.{memory_as}
use Rattle.weather.proofs.TodayLaws.{day_known, five_fit}
use Rattle.weather.proofs.today.weather_of.Goals as goal

pub falls_as_snow-snows-requires : goal.falls_as_snow-snows-requires
falls_as_snow-snows-requires c = let d = day_known _ c.requires.0 in (d.minimum, d.mean, d.maximum)

pub condition_of-requires : goal.condition_of-requires
condition_of-requires c = five_fit _ c.requires.1

pub returns : goal.returns
unfolding today
returns c =
    let given = c.args in
    let grows = c.grows-growing.ensures in
    let wetness = c.condition_of.ensures ∙ ap (λ (g : Bool). condition_of g (five_days (memory_as given.past.memory))) grows in
    λ k. record {
      gross = given.day.gross.0;
      potential = given.day.potential.0;
      growing? = grows k;
      snows? = c.falls_as_snow-snows.ensures k;
      meltable = c.meltable-meltable.ensures k;
      condition =
          (c.counted_as-condition.ensures ∙ (λ j. counted (setpoints_as given.climate.setpoints) (c.frost_after-frost.ensures j) (wetness j))) k;
    }
