-- `wholes::put_whole` meets its contract: the digits of how far it is from zero, after a minus where it is below.
use Rattle.grids.proofs.WholeLaws.{below_wrote, plain_wrote}
use Rattle.grids.proofs.wholes.put_whole.Goals as goal

pub returns-then-z-lt0 : goal.returns-then-z-lt0
returns-then-z-lt0 c =
    below_wrote c.args.z c.ranges.z c.if-z-lt0.true c.magnitude-far.ensures.0 c.put_below.ensures

pub returns : goal.returns
returns c =
    plain_wrote c.args.z c.ranges.z c.if-z-lt0.false c.magnitude-far.ensures.0 c.put_number.ensures
