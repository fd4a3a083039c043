-- `given::setup_given` meets its contract: grid and climate are read by their own promises.
use Rattle.clib.proofs.HandedLaws.{same_setup}
use Rattle.clib.proofs.given.setup_given.Goals as goal

pub returns : goal.returns
returns c = same_setup _ _ _ c.grid_of.ensures c.climate_of.ensures _ _ _ _ _
