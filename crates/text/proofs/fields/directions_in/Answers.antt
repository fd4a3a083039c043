-- `fields::directions_in` meets its contract: the directions are the first of a cell's numbers.
use Rattle.std.proofs.Common.{◌∙◌, add-zero}
use Rattle.text.specs.Program.{setup}
use Rattle.text.proofs.fields.directions_in.Goals as goal

pub returns : goal.returns
unfolding setup
returns c = c.column.ensures ∙ simp add-zero
