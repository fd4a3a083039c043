use Rattle.std.proofs.Common.{◌≡◌, drop}
use Rattle.grids.specs.Measures.{goes_on}
use Rattle.grids.proofs.measures.goes_on.Given as goal

abbrev pub invariant-loop-i : goal.invariant-loop-i
invariant-loop-i l = goes_on l.word ≡ goes_on (drop l.i l.word)
