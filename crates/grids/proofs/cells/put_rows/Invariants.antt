use Rattle.grids.proofs.FormLaws.{Laid}
use Rattle.grids.proofs.cells.put_rows.Given as goal

abbrev pub invariant-loop-cell : goal.invariant-loop-cell
invariant-loop-cell g l = Laid g.C.Cell.form g.C.Cell.most l.columns l.cells l.at l.initial.buffer l.buffer l.cell-index l.done l.next
