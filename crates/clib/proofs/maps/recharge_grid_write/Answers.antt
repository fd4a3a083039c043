-- `recharge_grid_write` meets its contract: the library's call over the header that was lent.
use Rattle.grids.proofs.WholeLaws.{whole}
use Rattle.clib.proofs.GridLaws.{grid_written}
use Rattle.clib.proofs.maps.recharge_grid_write.Goals as goal

pub returns : goal.returns
returns c =
    rw (← whole _ c.ranges.no_data, ← c.header_from-header.ensures) (grid_written _ _ _ _ _ _ _ c.write_grid.ensures c.told.ensures.0 c.told.ensures.1)
