-- The code's weather and its answer as the paper's.
use Rattle.paper.specs.Radiation as paper
use Rattle.radiation.specs.declared.weather.Estimate.{Estimate}
use Rattle.radiation.specs.declared.weather.Estimate.TheVariants.{Turc, JensenHaise}
use Rattle.radiation.specs.declared.weather.Weather.{Weather}
use Rattle.radiation.specs.declared.answers.BadReadings.{BadReadings}
use Rattle.records.specs.declared.quantities.Depth.{Depth}
use Rattle.std.specs.Prelude.{Result, Ok, Err}

abbrev pub estimate_as : Estimate → paper.Estimate
estimate_as (Turc radiation humidity) = paper.turc radiation humidity
estimate_as (JensenHaise radiation) = paper.jensen_haise radiation

abbrev pub weather_as : Weather → paper.Weather
weather_as w = record { mean = w.mean; estimate = estimate_as w.estimate }

abbrev pub potential_as : Result Depth BadReadings → paper.Estimated
potential_as (Ok depth) = paper.estimated depth.0
potential_as (Err why) = paper.readings
