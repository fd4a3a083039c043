-- `cell_day::runs_off` meets its contract: each return is one case of `runoff_by`.
use Rattle.std.proofs.Common.{eq-eqb, ne_eqb}
use Rattle.recharge.specs.CellDay.{closed_by, runoff_by}
use Rattle.recharge.proofs.cell_day.runs_off.Goals as goal

pub returns-then-way : goal.returns-then-way
unfolding runoff_by closed_by
returns-then-way c = simp (eq-eqb _ 4098 c.if-way.true)

pub returns-then-way-2 : goal.returns-then-way-2
unfolding runoff_by closed_by
returns-then-way-2 c = simp (ne_eqb _ _ c.if-way.false, eq-eqb _ 4097 c.if-way-2.true)

pub returns : goal.returns
unfolding runoff_by closed_by
returns c = simp (ne_eqb _ _ c.if-way.false, ne_eqb _ _ c.if-way-2.false) c.runoff.ensures
