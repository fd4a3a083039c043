-- `screening::complete` meets its contract: where numbers are missing the first test decides.
use Rattle.std.proofs.Common.{refl, le-leb}
use borrow.Author.Tests.{lt-leb}
use Rattle.text.proofs.screening.complete.Goals as goal

pub returns-then-count-needed : goal.returns-then-count-needed
returns-then-count-needed c = simp (lt-leb _ _ c.if-count-needed.true)

pub returns : goal.returns
returns c = rw (le-leb _ _ c.if-count-needed.false) refl
