use Rattle.std.proofs.Common.{◌-◌, length}
use Rattle.lines.proofs.ReadingLaws.{Stands}
use Rattle.lines.proofs.reading.gather.Given as goal

abbrev pub invariant-loop-from : goal.invariant-loop-from
invariant-loop-from l = Stands l.input l.initial.numbers l.numbers l.count l.from

abbrev pub decreases-loop-from : goal.decreases-loop-from
decreases-loop-from l = length l.input - l.from
