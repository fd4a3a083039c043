-- `estimates::units` meets its contract: 100,000 and 254 as bits are the paper's numbers.
use Rattle.std.proofs.Common.{refl}
use lib.Ieee.{of_bits, round}
use Rattle.paper.specs.Radiation.{decimal, whole, units_of}
use Rattle.radiation.proofs.estimates.units.Goals as goal

pub returns : goal.returns
unfolding units_of whole decimal round of_bits
returns c = refl
