-- `limits::radiation_fits` meets its contract: 0 and 1,000 as bits are the paper's numbers.
use Rattle.std.proofs.Common.{refl}
use lib.Ieee.{of_bits, round, le}
use Rattle.paper.specs.Radiation.{decimal, whole, between, radiation_fits}
use Rattle.radiation.proofs.limits.radiation_fits.Goals as goal

pub returns : goal.returns
unfolding le radiation_fits of_bits between whole decimal round
returns c = refl
