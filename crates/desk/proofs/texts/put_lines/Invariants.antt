use Rattle.words.specs.Writing.{Put}
use Rattle.desk.specs.Texts.{cells_as, cell_lines}
use Rattle.desk.proofs.texts.put_lines.Given as goal

abbrev pub invariant-loop-cell : goal.invariant-loop-cell
invariant-loop-cell l = Put l.at (cell_lines (cells_as l.cells) l.cell) l.initial.buffer l.buffer l.next
