use Rattle.std.proofs.Common.{◌-◌, length}
use Rattle.grids.proofs.ScanLaws.{Counted}
use Rattle.grids.proofs.reading.scan.Given as goal

abbrev pub invariant-loop-word : goal.invariant-loop-word
invariant-loop-word l = Counted l.no_data l.text l.from l.passing l.count l.word.start l.word.end

abbrev pub decreases-loop-word : goal.decreases-loop-word
decreases-loop-word l = length l.text - l.word.start
