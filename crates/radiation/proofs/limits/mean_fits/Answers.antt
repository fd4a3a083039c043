-- `limits::mean_fits` meets its contract: -60 and 60 as bits are the paper's numbers.
use Rattle.std.proofs.Common.{refl}
use lib.Ieee.{of_bits, round, le}
use Rattle.paper.specs.Radiation.{decimal, whole, between, mean_fits}
use Rattle.radiation.proofs.limits.mean_fits.Goals as goal

pub returns : goal.returns
unfolding le mean_fits of_bits between whole decimal round
returns c = refl
