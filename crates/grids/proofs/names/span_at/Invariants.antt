use Rattle.grids.specs.Spans.{WordAt}
use Rattle.grids.proofs.names.span_at.Given as goal

abbrev pub invariant-loop : goal.invariant-loop
invariant-loop l = WordAt l.text l.counter l.word.start l.word.end
