-- `numbers::count` meets its contract: each test shuts out a word that is no number, and the last leaves 1 to 9 bytes, of which the first is no zero.
use Rattle.std.proofs.Common.{◌∙◌, arith}
use Rattle.words.proofs.NumberLaws.{count_nothing, count_nought, count_long, count_spelled}
use Rattle.words.proofs.numbers.count.Goals as goal

pub returns-in_err-first : goal.returns-in_err-first
returns-in_err-first c = c.from_residual.ensures ∙ count_nothing c.args.word.now c.in_err-first.ensures.cases

pub returns-then-first-eq48 : goal.returns-then-first-eq48
returns-then-first-eq48 c = count_nought _ _ _ c.in_ok-first.ensures.cases.0 c.if-first-eq48.true

pub returns-then-rest-ge-MOST_DIGITS : goal.returns-then-rest-ge-MOST_DIGITS
returns-then-rest-ge-MOST_DIGITS c = count_long _ _ _ c.in_ok-first.ensures.cases.0 c.if-rest-ge-MOST_DIGITS.true

pub returns : goal.returns
returns c = c.spell.ensures ∙ count_spelled _ _ _ c.in_ok-first.ensures.cases.0 (omega (arith, c.if-rest-ge-MOST_DIGITS.false)) c.if-first-eq48.false
