-- `answers::answer` meets its contract: the paper's estimate is told, or the line's own refusal.
use Rattle.std.proofs.Common.{ap}
use Rattle.station.specs.Readings.{line_as}
use Rattle.station.proofs.AnswerLaws.{answers_estimate, answers_malformed}
use Rattle.station.proofs.answers.answer.Goals as goal

pub returns-in-Some : goal.returns-in-Some
returns-in-Some c =
    answers_estimate _ _ _ _ (ap line_as c.in-Some.is) c.potential.ensures.0 c.tell.ensures

pub returns-in-None : goal.returns-in-None
returns-in-None c = answers_malformed _ _ (ap line_as c.in-None.is) c.refused.ensures.put
