-- `cells::depth_fits` meets its contract: no depth is below zero.
use Rattle.grids.proofs.CellLaws.{depth_below, depth_plain}
use Rattle.grids.proofs.cells.depth_fits.Goals as goal

pub returns-then-no_data-lt0 : goal.returns-then-no_data-lt0
returns-then-no_data-lt0 c = depth_below _ _ c.ranges.no_data c.if-no_data-lt0.true

pub returns : goal.returns
returns c = depth_plain _ _ _ c.ranges.no_data c.if-no_data-lt0.false c.magnitude.ensures.0
