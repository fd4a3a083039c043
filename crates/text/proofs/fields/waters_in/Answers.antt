-- `fields::waters_in` meets its contract: available water is the last of a cell's numbers.
use Rattle.text.specs.Program.{setup}
use Rattle.text.proofs.fields.waters_in.Goals as goal

pub returns : goal.returns
unfolding setup
returns c = c.column.ensures
