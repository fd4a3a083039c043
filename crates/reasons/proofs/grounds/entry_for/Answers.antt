-- `grounds::entry_for` meets its contract: none of the entries that the search has passed has the code.
use Rattle.std.proofs.Common.{◌∙◌, not-suc-le-zero, arith, below_more, rules, eq-eqb, ne_eqb}
use Rattle.paper.specs.Covers.{entries}
use Rattle.reasons.proofs.GroundLaws.{entry_found, entry_none}
use Rattle.reasons.proofs.grounds.entry_for.Goals as goal

pub loop-e-init : goal.loop-e-init
loop-e-init c = λ j h. absurd (not-suc-le-zero h)

pub returns-then-covers-e : goal.returns-then-covers-e
unfolding entries
returns-then-covers-e c = (entry_found _ _ _ c.loop-e.invariant (omega arith) (eq-eqb _ _ c.if-covers-e.true), omega arith)

pub loop-e-preserved : goal.loop-e-preserved
loop-e-preserved c = below_more _ _ c.loop-e.invariant (ne_eqb _ _ c.if-covers-e.false)

pub returns : goal.returns
unfolding entries
returns c = (entry_none _ _ _ c.loop-e.invariant (omega arith), omega arith)
