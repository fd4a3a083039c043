-- `reading::code` meets its contract: a number has its code, and so has a word that is none.
use Rattle.std.proofs.Common.{sym, ap, ◌+◌, ◌∙◌, arith}
use Rattle.words.proofs.NumberLaws.{number_small}
use Rattle.lines.specs.Reading.{negatives}
use Rattle.lines.proofs.ReadingLaws.{code_none, code_plain, code_below, size_small}
use Rattle.lines.proofs.reading.code.Goals as goal

pub overflow_add-result : goal.overflow_add-result
overflow_add-result c =
    omega (arith, c.unsigned_abs.ensures.value, size_small _ _ (number_small c.args.word.now) (sym c.in-Some.is ∙ c.number.ensures))

pub returns-in_default : goal.returns-in_default
returns-in_default c = code_none _ (sym c.in_default.is ∙ c.number.ensures)

pub returns-then-n-lt0 : goal.returns-then-n-lt0
returns-then-n-lt0 c =
    ap (λ n. negatives + n) c.unsigned_abs.ensures.value
    ∙ code_below _ _ (number_small c.args.word.now) (sym c.in-Some.is ∙ c.number.ensures) c.if-n-lt0.true

pub returns : goal.returns
returns c =
    c.unsigned_abs-2.ensures.value
    ∙ code_plain _ _ (number_small c.args.word.now) (sym c.in-Some.is ∙ c.number.ensures) c.if-n-lt0.false
