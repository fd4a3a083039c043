-- `conditions::counted_as` meets its contract: each way out has the tests of the paper's case.
use Rattle.std.proofs.Common.{arith, le-leb}
use Rattle.paper.specs.Frost.{counted}
use borrow.Author.Tests.{lt-leb}
use Rattle.weather.proofs.conditions.counted_as.Goals as goal

pub returns-then-setpoints-index : goal.returns-then-setpoints-index
unfolding counted
returns-then-setpoints-index c =
    let given = c.args in
    simp (le-leb given.setpoints.second.0 given.index.0 (omega (arith, c.if-setpoints-index.true)))

pub returns-then-setpoints-index-2 : goal.returns-then-setpoints-index-2
unfolding counted
returns-then-setpoints-index-2 c =
    let given = c.args in
    simp (
      lt-leb given.setpoints.second.0 given.index.0 (omega (arith, c.if-setpoints-index.false)),
      le-leb given.setpoints.first.0 given.index.0 (omega (arith, c.if-setpoints-index-2.true)),
    ) c.not_dry.ensures

pub returns : goal.returns
unfolding counted
returns c =
    let given = c.args in
    simp (
      lt-leb given.setpoints.second.0 given.index.0 (omega (arith, c.if-setpoints-index.false)),
      lt-leb given.setpoints.first.0 given.index.0 (omega (arith, c.if-setpoints-index-2.false)),
    )
