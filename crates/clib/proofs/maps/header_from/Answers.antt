-- `maps::header_from` meets its contract: number by number, text by text.
use Rattle.std.proofs.Common.{refl}
use Rattle.grids.proofs.WholeLaws.{whole}
use Rattle.clib.specs.Grids.{header_from}
use Rattle.clib.proofs.maps.header_from.Goals as goal

pub returns : goal.returns
unfolding header_from
returns c =
    rw (
      c.index_of-x_count.ensures,
      c.index_of-y_count.ensures,
      c.index_of-cell_count.ensures,
      whole _ c.ranges.no_data,
    )
    refl
