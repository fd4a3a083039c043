-- `state::last_from` meets its contract, by the test for the number that stands for none.
use Rattle.std.proofs.Common.{eq-eqb, ne_eqb}
use Rattle.clib.specs.Numbers.{last_from}
use Rattle.clib.proofs.state.last_from.Goals as goal

pub returns-then-serial-eq-NO_SERIAL : goal.returns-then-serial-eq-NO_SERIAL
unfolding last_from
returns-then-serial-eq-NO_SERIAL c = simp (eq-eqb _ _ c.if-serial-eq-NO_SERIAL.true)

pub returns : goal.returns
unfolding last_from
returns c = simp (ne_eqb _ _ c.if-serial-eq-NO_SERIAL.false)
