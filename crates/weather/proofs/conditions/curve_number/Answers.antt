-- `conditions::curve_number` meets its contract: outside the table's limits the number comes back; in each condition the quotient is the paper's, and
-- its divisor is above zero for a number up to 100.
use Rattle.std.proofs.Common.{le-leb}
use borrow.Author.Tests.{lt-leb}
use Rattle.paper.specs.CurveNumber.{curve_number}
use Rattle.weather.specs.Conditions.{curve_number_by}
use Rattle.weather.proofs.TodayLaws.{table_number}
use Rattle.weather.proofs.conditions.curve_number.Goals as goal

pub returns-then-n : goal.returns-then-n
unfolding curve_number_by
returns-then-n c = simp (lt-leb _ _ c.if-n.true)

pub returns-then-n-2 : goal.returns-then-n-2
unfolding curve_number_by
returns-then-n-2 c = simp (le-leb _ _ c.if-n.false, lt-leb _ _ c.if-n-2.true)

pub returns-in-I : goal.returns-in-I
unfolding curve_number
returns-in-I c = rw (table_number _ _ c.if-n.false c.if-n-2.false) cc

pub returns-in-II : goal.returns-in-II
unfolding curve_number
returns-in-II c = rw (table_number _ _ c.if-n.false c.if-n-2.false) cc

pub returns-in-III : goal.returns-in-III
unfolding curve_number
returns-in-III c = rw (table_number _ _ c.if-n.false c.if-n-2.false) cc
