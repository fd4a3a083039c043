-- `today::today_of` meets its contract: a day and a memory that fit have the paper's weather, and any other has none.
use Rattle.std.proofs.Common.{sym, ◌∙◌}
use Rattle.weather.proofs.TodayLaws.{today_fits, no_day, no_memory}
use Rattle.weather.proofs.today.today_of.Goals as goal

pub returns-then-not-fits : goal.returns-then-not-fits
returns-then-not-fits c = c.no_weather.ensures ∙ no_day _ _ _ (sym c.fits.ensures ∙ c.if-not-fits.true)

pub returns-then-not-fits-2 : goal.returns-then-not-fits-2
returns-then-not-fits-2 c =
    c.no_weather-then-not-fits-2.ensures
    ∙ no_memory _ _ _ (sym c.fits.ensures ∙ c.if-not-fits.false)
    (sym c.fits-2.ensures ∙ c.if-not-fits-2.true)

pub weather_of-requires : goal.weather_of-requires
weather_of-requires c = (
  sym c.fits.ensures ∙ c.if-not-fits.false,
  sym c.fits-2.ensures ∙ c.if-not-fits-2.false,
)

pub returns : goal.returns
returns c =
    c.weather_of.ensures
    ∙ sym (today_fits _ _ _ (sym c.fits.ensures ∙ c.if-not-fits.false)
    (sym c.fits-2.ensures ∙ c.if-not-fits-2.false))
