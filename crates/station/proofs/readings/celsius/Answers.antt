-- `readings::celsius` meets its contract: 10 as bits is the paper's number.
use Rattle.std.proofs.Common.{ap, Float}
use lib.Ieee.{of_bits, round}
use Rattle.paper.specs.Radiation.{◌⊘◌, whole, decimal}
use Rattle.station.specs.Readings.{celsius_of}
use Rattle.station.proofs.readings.celsius.Goals as goal

pub returns : goal.returns
unfolding celsius_of whole decimal round of_bits
returns c = ap (λ (x : Float). x ⊘ whole 10) c.reading.ensures
