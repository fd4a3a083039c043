use Rattle.std.proofs.Common.{◌≡◌, ◌-◌, length}
use Rattle.lines.specs.Reading.{most_numbers}
use Rattle.station.proofs.AnswerLaws.{Answering}
use Rattle.station.proofs.answers.answer_lines.Given as goal

abbrev pub invariant-loop-from : goal.invariant-loop-from
invariant-loop-from l = Answering l.input l.initial.output l.output l.at l.number l.from × (length l.numbers ≡ most_numbers)

abbrev pub decreases-loop-from : goal.decreases-loop-from
decreases-loop-from l = length l.input - l.from
