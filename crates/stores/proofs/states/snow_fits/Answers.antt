-- `states::snow_fits` meets its contract: no snow is within any limit, and some snow is past open water's.
use Rattle.std.proofs.Common.{refl, sym, ◌∙◌, zero-le, le_trans, le_of_eq, arith, le-leb}
use borrow.Author.Tests.{lt-leb}
use Rattle.stores.proofs.states.snow_fits.Goals as goal

pub returns-then-snow-eq0 : goal.returns-then-snow-eq0
returns-then-snow-eq0 c = sym (le-leb c.args.snow _ (le_trans (le_of_eq c.if-snow-eq0.true) zero-le))

pub returns-then-is_open : goal.returns-then-is_open
returns-then-is_open c =
    rw (sym c.is_open.ensures ∙ c.if-is_open.true) (sym (lt-leb c.args.snow 0 (omega arith)))

pub returns : goal.returns
returns c =
    rw (c.wide.ensures, sym c.is_open.ensures ∙ c.if-is_open.false) refl
