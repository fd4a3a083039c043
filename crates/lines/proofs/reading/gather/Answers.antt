-- `reading::gather` meets its contract. The loop's invariant: the reader stands in the text, so that what is stored and what is left to read are all
-- that is read. The laws of that standing are the loop's four ways on.
use Rattle.std.proofs.Common.{arith}
use Rattle.lines.proofs.ReadingLaws.{stands_first, text_end, blanks_end, room_left, next_number, bad_end}
use Rattle.lines.proofs.reading.gather.Goals as goal

pub loop-from-init : goal.loop-from-init
loop-from-init c = stands_first c.args.input.now c.args.numbers.now c.requires

pub returns-then-end-start : goal.returns-then-end-start
returns-then-end-start c = blanks_end _ _ _ _ _ c.loop-from.invariant _ _ c.next_word-word.ensures c.if-end-start.true

pub slice_bounds-code-end : goal.slice_bounds-code-end
slice_bounds-code-end c = c.next_word-word.ensures.inside c.if-end-start.false

pub returns-then-c-ge-NO_NUMBER : goal.returns-then-c-ge-NO_NUMBER
returns-then-c-ge-NO_NUMBER c = bad_end _ _ _ _ _ c.loop-from.invariant _ _ c.next_word-word.ensures c.if-end-start.false _ c.code-c.ensures c.if-c-ge-NO_NUMBER.true

pub bounds-numbers-count : goal.bounds-numbers-count
bounds-numbers-count c = room_left _ _ _ _ _ c.loop-from.invariant _ _ c.next_word-word.ensures c.if-end-start.false

pub overflow_add-count : goal.overflow_add-count
overflow_add-count c = omega (arith, room_left _ _ _ _ _ c.loop-from.invariant _ _ c.next_word-word.ensures c.if-end-start.false)

pub loop-from-smaller : goal.loop-from-smaller
loop-from-smaller c = omega (arith, c.next_word-word.ensures.forward, c.if-end-start.false)

pub loop-from-preserved : goal.loop-from-preserved
loop-from-preserved c = next_number _ _ _ _ _ c.loop-from.invariant _ _ c.next_word-word.ensures c.if-end-start.false _ c.code-c.ensures c.if-c-ge-NO_NUMBER.false

pub returns : goal.returns
returns c = text_end _ _ _ _ _ c.loop-from.invariant c.loop-from-test.false
