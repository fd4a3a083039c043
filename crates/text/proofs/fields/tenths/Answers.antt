-- `fields::tenths` meets its contract: a code below two thousand million fits 32 signed bits, and so does its difference from a thousand million; from there
-- on every code is the lowest number.
use Rattle.text.proofs.SignLaws.{none_degrees, minus_fits, minus_degrees, plain_degrees}
use Rattle.text.proofs.fields.tenths.Goals as goal

pub returns-then-code-ge-NO_NUMBER : goal.returns-then-code-ge-NO_NUMBER
returns-then-code-ge-NO_NUMBER c = none_degrees _ c.if-code-ge-NO_NUMBER.true

pub overflow_sub-result : goal.overflow_sub-result
overflow_sub-result c = minus_fits _ c.if-code-ge-NO_NUMBER.false c.if-code-gt-NEGATIVES.true

pub returns-then-code-gt-NEGATIVES : goal.returns-then-code-gt-NEGATIVES
returns-then-code-gt-NEGATIVES c = minus_degrees _ c.if-code-ge-NO_NUMBER.false c.if-code-gt-NEGATIVES.true

pub returns : goal.returns
returns c = plain_degrees _ c.if-code-ge-NO_NUMBER.false c.if-code-gt-NEGATIVES.false
