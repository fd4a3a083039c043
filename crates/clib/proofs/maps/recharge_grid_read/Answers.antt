-- `recharge_grid_read` meets its contract: the header is lent number by number and text by text, the empty one where the grid is refused.
use Rattle.std.proofs.Common.{refl, ap, ◌∙◌}
use Rattle.clib.specs.Grids.{header_kept}
use Rattle.clib.proofs.GridLaws.{read_whole, read_refused}
use Rattle.clib.proofs.maps.recharge_grid_read.Goals as goal

pub returns-in-Ok : goal.returns-in-Ok
returns-in-Ok c = read_whole _ _ _ _ _ _ _ _ _ _ (rw c.in-Ok.is at c.read_grid.ensures) c.keep.ensures refl

pub returns-in-Err : goal.returns-in-Err
returns-in-Err c =
    read_refused _ _ _ _ _ _ _ _ _ _ (rw c.in-Err.is at c.read_grid.ensures) (c.keep-in-Err.ensures ∙ ap header_kept c.none.ensures) c.refused_as.ensures
