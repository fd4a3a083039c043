use Rattle.std.proofs.Common.{◌-◌, length}
use Rattle.season.proofs.ReadingLaws.{Stands}
use Rattle.season.proofs.reading.read_days.Given as goal

abbrev pub invariant-loop-word : goal.invariant-loop-word
invariant-loop-word l = Stands l.text l.initial.days l.days l.count l.word.start l.word.end

abbrev pub decreases-loop-word : goal.decreases-loop-word
decreases-loop-word l = length l.text - l.word.start
