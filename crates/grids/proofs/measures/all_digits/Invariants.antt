use Rattle.std.proofs.Common.{◌≡◌, drop}
use Rattle.words.specs.Numbers.{all_digits}
use Rattle.grids.proofs.measures.all_digits.Given as goal

abbrev pub invariant-loop-b : goal.invariant-loop-b
invariant-loop-b l = all_digits l.word ≡ all_digits (drop l.b-index l.word)
