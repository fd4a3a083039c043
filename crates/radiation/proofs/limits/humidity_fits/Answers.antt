-- `limits::humidity_fits` meets its contract: 0 and 100 as bits are the paper's numbers.
use Rattle.std.proofs.Common.{refl}
use lib.Ieee.{of_bits, round, le}
use Rattle.paper.specs.Radiation.{decimal, whole, between, humidity_fits}
use Rattle.radiation.proofs.limits.humidity_fits.Goals as goal

pub returns : goal.returns
unfolding le humidity_fits of_bits between whole decimal round
returns c = refl
