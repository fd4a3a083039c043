-- `frost::frost_after` meets its contract: its parts are those of the step without cases, and each fits 64 bits.
use Rattle.records.proofs.FrostLaws.{frost_step}
use Rattle.records.proofs.frost.frost_after.Goals as goal

pub returns : goal.returns
returns c =
    rw (c.left_of.ensures, c.above_freezing.ensures.0, c.below_freezing.ensures.0) (frost_step _ _)
