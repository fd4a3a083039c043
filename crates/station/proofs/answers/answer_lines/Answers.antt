-- `answers::answer_lines` meets its contract. The loop's invariant: what is written are the answers to the lines passed, and with those to the lines ahead
-- they are all; and the lent numbers keep their room.
use Rattle.std.proofs.Common.{ℕ, arith}
use lib.ListN.{length-replicate}
use Rattle.words.proofs.WritingLaws.{put_length}
use Rattle.station.proofs.AnswerLaws.{answering_first, answering_next, answering_end, few_lines}
use Rattle.station.proofs.answers.answer_lines.Goals as goal

pub loop-from-init : goal.loop-from-init
loop-from-init c = (answering_first _ _, length-replicate {A = ℕ} 32768 0)

pub slice_bounds-read_line-count : goal.slice_bounds-read_line-count
slice_bounds-read_line-count c = c.line_end-end.ensures.forward

pub slice_bounds-read_line-end : goal.slice_bounds-read_line-end
slice_bounds-read_line-end c = c.line_end-end.ensures.inside c.loop-from-test.true

pub read_line-line-requires : goal.read_line-line-requires
read_line-line-requires c = c.loop-from.invariant.1

pub overflow_add-number : goal.overflow_add-number
overflow_add-number c =
    omega (arith, few_lines _ _ _ _ _ _ c.requires c.loop-from.invariant.0 _ c.line_end-end.ensures c.loop-from-test.true)

pub overflow_add-from : goal.overflow_add-from
overflow_add-from c = omega (arith, c.line_end-end.ensures.inside c.loop-from-test.true, c.requires)

pub loop-from-smaller : goal.loop-from-smaller
loop-from-smaller c = omega (arith, c.line_end-end.ensures.forward, c.loop-from-test.true)

pub loop-from-preserved : goal.loop-from-preserved
loop-from-preserved c = (
  answering_next _ _ _ _ _ _ c.requires c.loop-from.invariant.0 _ c.line_end-end.ensures c.loop-from-test.true
      (omega arith) (rw c.read_line-line.ensures.0 at c.answer-at.ensures),
  c.read_line-line.ensures.1,
)

pub shape_of-output : goal.shape_of-output
shape_of-output c = put_length c.loop-from.invariant.0.put

pub returns : goal.returns
returns c = answering_end _ _ _ _ _ _ c.requires c.loop-from.invariant.0 c.loop-from-test.false
