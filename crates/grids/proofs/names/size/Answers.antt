-- `names::size` meets its contract: a number of zero or more, else none.
use Rattle.std.proofs.Common.{sym, ap, ◌∙◌, nat_abs}
use Rattle.grids.proofs.WholeLaws.{number_read}
use Rattle.grids.proofs.NameLaws.{size_plain, size_below, size_bad}
use Rattle.grids.proofs.names.size.Goals as goal

pub returns-in-Some : goal.returns-in-Some
returns-in-Some c =
    let e = sym c.in-Some.is ∙ c.number.ensures in
    let same = number_read _ _ e in
    c.unsigned_abs.ensures.value ∙ ap nat_abs same ∙ size_plain _ c.in-Some.n e (rw same at c.if-n-ge0.true)

pub returns-in_default : goal.returns-in_default
returns-in_default c =
    let e = sym c.in-Some.is ∙ c.number.ensures in
    size_below _ c.in-Some.n e (rw (number_read _ _ e) at c.if-n-ge0.false)

pub returns-in_default-2 : goal.returns-in_default-2
returns-in_default-2 c = size_bad _ (sym c.in_default.is ∙ c.number.ensures)
