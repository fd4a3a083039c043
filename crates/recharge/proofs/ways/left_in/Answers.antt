-- `ways::left_in` meets its contract: each way out has the test that led there.
use Rattle.std.proofs.Common.{eq-eqb, ne_eqb}
use Rattle.theory.specs.Sums.{given}
use Rattle.recharge.specs.CellDay.{closed_by}
use Rattle.recharge.proofs.ways.left_in.Goals as goal

pub returns-then-way : goal.returns-then-way
unfolding closed_by given
returns-then-way c = simp (eq-eqb _ 4097 c.if-way.true)

pub returns : goal.returns
unfolding closed_by given
returns c = simp (ne_eqb _ _ c.if-way.false)
