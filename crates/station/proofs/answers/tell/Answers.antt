-- `answers::tell` meets its contract: an estimate is a row of one number, a refusal is told at the line.
use Rattle.std.proofs.Common.{ap}
use Rattle.radiation.specs.Estimates.{potential_as}
use Rattle.station.proofs.AnswerLaws.{tells_estimate, tells_refusal}
use Rattle.station.proofs.answers.tell.Goals as goal

pub returns-in-Ok : goal.returns-in-Ok
returns-in-Ok c = tells_estimate _ _ _ (ap potential_as c.in-Ok.is) c.put_item.ensures

pub returns-in-Err : goal.returns-in-Err
returns-in-Err c =
    tells_refusal _ _ (ap potential_as c.in-Err.is)
    (rw (c.wide.ensures, c.number.ensures.0) at c.refused.ensures.put)
