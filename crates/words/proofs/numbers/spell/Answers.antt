-- `numbers::spell` meets its contract: what all bytes spell is what the loop has spelled and goes on with. So many digits as it has passed spell less
-- than that power of ten, so that no number passes 32 bits.
use Rattle.std.proofs.Common.{◌≡◌, sym, ◌∙◌, arith, true, get_or, ◌+◌, ◌<◌, add-one}
use Rattle.words.specs.Numbers.{is_digit}
use Rattle.words.proofs.NumberLaws.{digit_low, digit_high, spelled_next, spelled_stop, spelled_end, eight_digits, next_digit}
use Rattle.words.proofs.numbers.spell.Goals as goal
use Rattle.words.proofs.numbers.spell.Goals.{Else-not-is_digit}

pub returns-then-not-is_digit : goal.returns-then-not-is_digit
returns-then-not-is_digit c =
    sym (c.loop-b.invariant.1 ∙ spelled_stop c.args.word.now c.loop-b.b-index _ c.loop-b-test.true (sym c.is_digit.ensures ∙ c.if-not-is_digit.true))

-- a byte that the loop goes on with
module _ (c : goal.Else-not-is_digit) where
  digit : is_digit (get_or c.args.word.now c.loop-b.b-index 0) ≡ true
  digit = sym c.is_digit.ensures ∙ c.if-not-is_digit.false

  small : c.loop-b.n < 100000000
  small = eight_digits c.loop-b.n c.loop-b.b-index (omega (arith, c.loop-b-test.true, c.requires)) c.loop-b.invariant.0

pub overflow_mul-n : goal.overflow_mul-n
overflow_mul-n c = record { fits = omega (arith, small c) }

pub overflow_sub-b : goal.overflow_sub-b
overflow_sub-b c = digit_low _ (digit c)

pub overflow_add-n : goal.overflow_add-n
overflow_add-n c =
    let d = (goal.at.overflow_add-n c).Else-not-is_digit in
    record { fits = omega (arith, small d, digit_high _ (digit d), c.from.ensures) }

pub loop-b-preserved : goal.loop-b-preserved
loop-b-preserved c =
    let is = digit (goal.at.loop-b-preserved c).Else-not-is_digit in
    rw c.from.ensures (
      next_digit c.loop-b.n _ c.loop-b.b-index (c.loop-b.b-index + 1) (add-one c.loop-b.b-index) (omega (arith, digit_high _ is)) c.loop-b.invariant.0,
      c.loop-b.invariant.1 ∙ spelled_next c.args.word.now c.loop-b.b-index c.loop-b.n c.loop-b-test.true is,
    )

pub returns : goal.returns
returns c = sym (c.loop-b.invariant.1 ∙ spelled_end c.args.word.now c.loop-b.b-index _ c.loop-b-test.false)
