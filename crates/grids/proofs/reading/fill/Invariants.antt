use Rattle.std.proofs.Common.{◌-◌, length}
use Rattle.grids.proofs.ScanLaws.{Filled}
use Rattle.grids.proofs.reading.fill.Given as goal

abbrev pub invariant-loop-word : goal.invariant-loop-word
invariant-loop-word l = Filled l.text l.from l.initial.cells l.cells l.i l.word.start l.word.end

abbrev pub decreases-loop-word : goal.decreases-loop-word
decreases-loop-word l = length l.text - l.word.start
