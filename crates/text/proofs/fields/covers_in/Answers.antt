-- `fields::covers_in` meets its contract: the cover codes are the second of a cell's numbers.
use Rattle.text.specs.Program.{setup}
use Rattle.text.proofs.fields.covers_in.Goals as goal

pub returns : goal.returns
unfolding setup
returns c = c.column.ensures
