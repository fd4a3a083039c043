-- `conditions::class` meets its contract: each way out has the tests of the paper's case.
use Rattle.std.proofs.Common.{lt-ltb, le-ltb}
use Rattle.paper.specs.CurveNumber.{class}
use Rattle.weather.proofs.conditions.class.Goals as goal

pub returns-then-rain-low : goal.returns-then-rain-low
unfolding class
returns-then-rain-low c = simp (lt-ltb _ _ c.if-rain-low.true)

pub returns-then-high-rain : goal.returns-then-high-rain
unfolding class
returns-then-high-rain c = simp (le-ltb _ _ c.if-rain-low.false, lt-ltb _ _ c.if-high-rain.true)

pub returns : goal.returns
unfolding class
returns c = simp (le-ltb _ _ c.if-rain-low.false, le-ltb _ _ c.if-high-rain.false)
