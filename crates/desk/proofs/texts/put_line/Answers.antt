-- `texts::put_line` meets its contract: four numbers, each with the blank after it.
use Rattle.std.proofs.Common.{arith}
use Rattle.desk.specs.Texts.{cell_line}
use Rattle.desk.proofs.TextLaws.{line_put}
use Rattle.desk.proofs.texts.put_line.Goals as goal

pub returns : goal.returns
unfolding cell_line
returns c =
    line_put _ _ _ _ (omega arith) (record { sfits = omega arith }) (record { sfits = omega arith }) (record { sfits = omega arith }) (record { sfits = omega arith })
    c.put_cell-a.ensures c.put_cell-b.ensures c.put_cell-c.ensures c.put_cell.ensures
