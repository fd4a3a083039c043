-- `table::rises` meets its contract: the first entry has none before it, and any other is held to the one before it.
use Rattle.std.proofs.Common.{arith}
use Rattle.covers.proofs.TableLaws.{rises_first, rises_later}
use Rattle.covers.proofs.table.rises.Goals as goal

pub returns-then-e-eq0 : goal.returns-then-e-eq0
returns-then-e-eq0 c = rises_first _ _ c.if-e-eq0.true

pub returns : goal.returns
returns c = rw (c.code_of.ensures, c.code_of-2.ensures) (rises_later _ _ (omega arith))
