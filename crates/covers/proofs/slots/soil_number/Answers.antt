-- `slots::soil_number` meets its contract: open water is tested first.
use Rattle.std.proofs.Common.{sym, ◌∙◌}
use Rattle.theory.proofs.Cases.{cond_true, cond_false}
use Rattle.covers.proofs.slots.soil_number.Goals as goal

pub returns-then-lake : goal.returns-then-lake
returns-then-lake c = sym (cond_true _ c.if-lake.true _ _)

pub returns : goal.returns
returns c = c.number_at.ensures ∙ sym (cond_false _ c.if-lake.false _ _)
