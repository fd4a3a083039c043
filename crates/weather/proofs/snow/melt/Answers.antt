-- `snow::melt` meets its contract: the melt is the smaller of the two.
use Rattle.paper.specs.Snow.{melt}
use Rattle.weather.proofs.snow.melt.Goals as goal

pub returns : goal.returns
unfolding melt
returns c = c.smaller.ensures
