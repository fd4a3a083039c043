-- `run::cells_in` meets its contract: complete numbers have no more cells than a grid may have.
use Rattle.text.proofs.LayingLaws.{cells_fit}
use Rattle.why.proofs.run.cells_in.Goals as goal

pub returns : goal.returns
returns c = cells_fit _ _ c.requires
