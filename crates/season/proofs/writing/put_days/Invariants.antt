use Rattle.words.specs.Writing.{Put}
use Rattle.season.specs.Lines.{day_lines}
use Rattle.season.proofs.writing.put_days.Given as goal

abbrev pub invariant-loop-k : goal.invariant-loop-k
invariant-loop-k l = Put 0 (day_lines l.days l.totals l.k) l.initial.output l.output l.next
