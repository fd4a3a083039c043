-- `cover_file::word_count` meets its contract: those counted and those from the loop's place on are all.
use Rattle.std.proofs.Common.{arith}
use Rattle.desk.proofs.CoverLaws.{counted_few}
use Rattle.desk.proofs.cover_file.word_count.Goals as goal

pub overflow_add-count : goal.overflow_add-count
overflow_add-count c = record { fits = omega (arith, counted_few _ _ _ _ _ c.loop-word.invariant c.next_word-word.ensures c.if-word.false) }
