-- `fields::cells_held` meets its contract: the smaller of the two.
use Rattle.std.proofs.Common.{ap, ◌∙◌, arith}
use Rattle.paper.specs.Setup.{cells_of}
use Rattle.records.specs.Grids.{grid_as}
use Rattle.records.specs.declared.grids.Grid.{Grid}
use Rattle.text.specs.Program.{cell_count}
use Rattle.text.proofs.fields.cells_held.Goals as goal

pub returns : goal.returns
unfolding cells_of cell_count
returns c =
    let counted = c.cells.ensures ∙ ap (λ (g : Grid). cells_of (grid_as g)) c.grid_in.ensures in
    omega (arith, counted, c.min.ensures)
