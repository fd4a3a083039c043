use Rattle.std.proofs.Common.{◌≡◌, ◌<◌, ◌^◌, drop}
use Rattle.words.specs.Numbers.{spelled_in}
use Rattle.words.proofs.numbers.spell.Given as goal

abbrev pub invariant-loop-b : goal.invariant-loop-b
invariant-loop-b l = (l.n < 10 ^ l.b-index) × (spelled_in 0 l.word ≡ spelled_in l.n (drop l.b-index l.word))
