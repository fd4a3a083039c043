-- `ways::gone_from` meets its contract: each way out has the tests that led there.
use Rattle.std.proofs.Common.{eq-eqb, ne_eqb}
use Rattle.theory.specs.Sums.{given}
use Rattle.recharge.specs.CellDay.{gone_by}
use Rattle.recharge.proofs.ways.gone_from.Goals as goal

pub returns-then-way : goal.returns-then-way
unfolding gone_by given
returns-then-way c = simp (eq-eqb _ 4096 c.if-way.true)

pub returns-then-way-2 : goal.returns-then-way-2
unfolding gone_by given
returns-then-way-2 c = simp (ne_eqb _ _ c.if-way.false, eq-eqb _ 4098 c.if-way-2.true)

pub returns : goal.returns
unfolding gone_by given
returns c = simp (ne_eqb _ _ c.if-way.false, ne_eqb _ _ c.if-way-2.false)
