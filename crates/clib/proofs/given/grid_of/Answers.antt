-- `given::grid_of` meets its contract: two numbers, each under its name.
use Rattle.std.proofs.Common.{refl}
use Rattle.clib.proofs.given.grid_of.Goals as goal

pub returns : goal.returns
returns c = refl
