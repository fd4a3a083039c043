-- `numbers::number` meets its contract: the first byte tells the sign, and the digits after it are a number or none.
use Rattle.std.proofs.Common.{◌∙◌}
use Rattle.words.proofs.NumberLaws.{count_fits, minus_fits, nothing_means, zero_means, minus_means, minus_means_none, plain_means, plain_means_none}
use Rattle.words.specs.Numbers.{is_zero}
use Rattle.words.proofs.numbers.number.Goals as goal

pub returns-in_err-first : goal.returns-in_err-first
returns-in_err-first c = c.from_residual.ensures ∙ nothing_means _ c.in_err-first.ensures.cases

pub returns-then-first-is_empty : goal.returns-then-first-is_empty
returns-then-first-is_empty c =
    zero_means _ _ _ c.in_ok-first.ensures.cases.0 (rw c.is_empty.ensures at c.if-first-is_empty.true)

pub returns-in_err-below : goal.returns-in_err-below
returns-in_err-below c = c.from_residual-in_err-below.ensures ∙ minus_means_none _ _ _ c.in_ok-first.ensures.cases.0 c.if-first-eq45.true c.in_err-below.ensures

pub overflow_cast-result : goal.overflow_cast-result
overflow_cast-result c = count_fits _ _ c.in_ok-below.ensures

pub overflow_sub-result : goal.overflow_sub-result
overflow_sub-result c = minus_fits _ _ c.in_ok-below.ensures

pub returns-then-first-eq45 : goal.returns-then-first-eq45
returns-then-first-eq45 c = minus_means _ _ _ c.in_ok-first.ensures.cases.0 c.if-first-eq45.true _ c.in_ok-below.ensures

pub returns-in_err-n : goal.returns-in_err-n
unfolding is_zero
returns-in_err-n c =
    c.from_residual-in_err-n.ensures
    ∙ plain_means_none _ _ _ c.in_ok-first.ensures.cases.0 c.if-first-eq45.false (rw c.is_empty.ensures at c.if-first-is_empty.false) c.in_err-n.ensures

pub overflow_cast-result-2 : goal.overflow_cast-result-2
overflow_cast-result-2 c = count_fits _ _ c.in_ok-n.ensures

pub returns : goal.returns
returns c = plain_means _ _ _ c.in_ok-first.ensures.cases.0 c.if-first-eq45.false _ c.in_ok-n.ensures
