-- `spans::search` meets its contract: what stands before the first such byte from `from` on is what the loop has passed and what stands before it from its
-- place on.
use mathlib.Core.Path.{refl, sym, ◌∙◌}
use native.Mathlib.Omega.{arith}
use Rattle.words.proofs.WordLaws.{before_more, before_stop, before_end}
use Rattle.words.proofs.spans.search.Goals as goal

pub loop-at-init : goal.loop-at-init
loop-at-init c = refl

pub returns-then-stops_at : goal.returns-then-stops_at
returns-then-stops_at c =
    let lent = c.args in
    let e = before_stop lent.stop lent.text.now c.loop-at.at c.loop-at-test.true (sym c.stops_at.ensures ∙ c.if-stops_at.true) in
    omega (arith, c.loop-at.invariant)

pub loop-at-preserved : goal.loop-at-preserved
loop-at-preserved c =
    let lent = c.args in
    let e = before_more lent.stop lent.text.now c.loop-at.at c.loop-at-test.true (sym c.stops_at.ensures ∙ c.if-stops_at.false) in
    omega (arith, c.loop-at.invariant)

pub returns : goal.returns
returns c =
    let lent = c.args in
    let e = before_end lent.stop lent.text.now c.loop-at.at c.loop-at-test.false in
    omega (arith, c.loop-at.invariant)
