-- `estimates::potential` meets its contract: readings outside their limits are refused, and those within them give the paper's number.
use Rattle.std.proofs.Common.{sym, ◌∙◌}
use Rattle.paper.proofs.RadiationLaws.{estimated_outside}
use Rattle.radiation.specs.Estimates.{weather_as}
use Rattle.radiation.proofs.PotentialLaws.{steps_cut, steps_estimated, not_past}
use Rattle.radiation.proofs.estimates.potential.Goals as goal

pub returns-then-not-weather_fits : goal.returns-then-not-weather_fits
returns-then-not-weather_fits c =
    let w = weather_as c.args.weather in
    let is = sym (estimated_outside w (sym c.weather_fits.ensures ∙ c.if-not-weather_fits.true)) in
    (is, not_past w _ is)

pub truncating_f64_to_u64-requires : goal.truncating_f64_to_u64-requires
truncating_f64_to_u64-requires c =
    let cut = steps_cut (weather_as c.args.weather) _ _ (sym c.weather_fits.ensures ∙ c.if-not-weather_fits.false) c.millimetres.ensures c.units-depth.ensures in
    record { lower_bound = cut.above; upper_bound = cut.below }

pub returns : goal.returns
returns c =
    let w = weather_as c.args.weather in
    let is = steps_estimated w _ _ (sym c.weather_fits.ensures ∙ c.if-not-weather_fits.false) c.millimetres.ensures c.units-depth.ensures _ c.truncating_f64_to_u64.ensures in
    (is, not_past w _ is)
