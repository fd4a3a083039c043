-- `conditions::condition_of` meets its contract: the season's two limits go to `class`.
use Rattle.paper.specs.CurveNumber.{condition_of}
use Rattle.weather.proofs.conditions.condition_of.Goals as goal

pub returns-then-growing : goal.returns-then-growing
unfolding condition_of
returns-then-growing c = rw c.if-growing.true (rw c.five_days-rain.ensures at c.class.ensures)

pub returns-else-growing : goal.returns-else-growing
unfolding condition_of
returns-else-growing c = rw c.if-growing.false (rw c.five_days-rain.ensures at c.class-else-growing.ensures)
