-- `fields::grid_in` meets its contract: two numbers read.
use Rattle.text.proofs.fields.grid_in.Goals as goal

pub returns : goal.returns
returns c = cc
