-- `reading::read_days` meets its contract. The loop's invariant: the reader stands before a word, so that what is stored and what is left to read are all
-- that is read.
use Rattle.std.proofs.Common.{sym, ◌∙◌, arith}
use Rattle.season.proofs.ReadingLaws.{stands_first, count_few, next_number, bad_end, all_read}
use Rattle.season.proofs.reading.read_days.Goals as goal

pub loop-word-init : goal.loop-word-init
loop-word-init c = stands_first _ _ _ _ c.next_word-word.ensures

pub slice_bounds-number-end : goal.slice_bounds-number-end
slice_bounds-number-end c = c.loop-word.invariant.next.inside c.loop-word-test.true

pub shape_of-days-in_default : goal.shape_of-days-in_default
shape_of-days-in_default c = c.loop-word.invariant.sized

pub returns-in_default : goal.returns-in_default
returns-in_default c =
    bad_end _ _ _ _ _ _ c.loop-word.invariant c.loop-word-test.true (sym c.in_default.is ∙ c.number.ensures)

pub overflow_add-count : goal.overflow_add-count
overflow_add-count c =
    record { fits = omega (arith, count_few _ _ _ _ _ _ c.loop-word.invariant c.loop-word-test.true) }

pub loop-word-smaller : goal.loop-word-smaller
loop-word-smaller c =
    omega (arith, c.next_word-word-in-loop-word.ensures.forward, c.loop-word.invariant.next.inside c.loop-word-test.true, c.loop-word-test.true)

pub loop-word-preserved : goal.loop-word-preserved
loop-word-preserved c =
    next_number _ _ _ _ _ _ c.loop-word.invariant c.loop-word-test.true _ _ _ _
    (sym c.in-Some.is ∙ c.number.ensures) c.store.ensures c.next_word-word-in-loop-word.ensures

pub shape_of-days : goal.shape_of-days
shape_of-days c = c.loop-word.invariant.sized

pub returns : goal.returns
returns c = all_read _ _ _ _ _ _ c.loop-word.invariant c.loop-word-test.false _ c.days_in.ensures
