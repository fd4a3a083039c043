-- `cells::cell_way` meets its contract: open water has its own number, and any other cell goes by its byte.
use Rattle.std.proofs.Common.{eq-eqb, ne_eqb}
use Rattle.survey.specs.Cells.{way_from}
use Rattle.survey.proofs.cells.cell_way.Goals as goal

pub returns-then-lake-eq1 : goal.returns-then-lake-eq1
unfolding way_from
returns-then-lake-eq1 c = let lake = c.if-lake-eq1.true in simp (eq-eqb)

pub returns : goal.returns
unfolding way_from
returns c = let land = c.if-lake-eq1.false in simp (ne_eqb) c.way.ensures
