-- `soil::wet_day` meets its contract: the code's four figures are the paper's, one by one.
use Rattle.std.proofs.Common.{refl}
use Rattle.paper.specs.Soil.{wet_day, excess}
use Rattle.recharge.proofs.soil.wet_day.Goals as goal

pub returns : goal.returns
unfolding wet_day excess
returns c =
    rw (c.smaller-2.ensures, c.beyond.ensures, c.smaller.ensures, c.beyond-excess.ensures) refl
