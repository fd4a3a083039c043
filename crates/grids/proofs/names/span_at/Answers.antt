-- `names::span_at` meets its contract: the loop's word is the one of its number.
use Rattle.grids.proofs.SpanLaws.{word_first, word_then}
use Rattle.grids.proofs.names.span_at.Goals as goal

pub loop-init : goal.loop-init
loop-init c = word_first _ _ _ c.next_word-word.ensures

pub loop-preserved : goal.loop-preserved
loop-preserved c = word_then _ _ _ _ _ _ c.loop.invariant c.next_word-word-in-loop.ensures
