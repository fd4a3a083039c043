use Rattle.std.proofs.Common.{◌-◌, length}
use Rattle.desk.proofs.CoverLaws.{Counted}
use Rattle.desk.proofs.cover_file.word_count.Given as goal

abbrev pub invariant-loop-word : goal.invariant-loop-word
invariant-loop-word l = Counted l.text l.count l.from

abbrev pub decreases-loop-word : goal.decreases-loop-word
decreases-loop-word l = length l.text - l.from
