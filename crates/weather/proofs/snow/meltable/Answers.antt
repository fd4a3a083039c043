-- `snow::meltable` meets its contract: the quotient is the paper's, of the tenths above freezing.
use Rattle.std.proofs.Common.{refl}
use Rattle.paper.specs.Snow.{meltable}
use Rattle.weather.proofs.snow.meltable.Goals as goal

pub returns : goal.returns
unfolding meltable
returns c = rw c.above_freezing-above.ensures.0 refl
