-- `given::climate_of` meets its contract: a 32-bit setpoint as an index is the same number.
use Rattle.clib.proofs.given.climate_of.Goals as goal

pub returns : goal.returns
returns c = cc
