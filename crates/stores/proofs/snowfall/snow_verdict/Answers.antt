-- `snowfall::snow_verdict` meets its contract: no store that the search has passed would grow past its limit.
use Rattle.std.proofs.Common.{sym, ◌∙◌, not-suc-le-zero, arith, below_more}
use Rattle.stores.specs.Snowfall.{deep_by}
use Rattle.stores.proofs.SnowfallLaws.{deep_found, none_deep}
use Rattle.stores.proofs.snowfall.snow_verdict.Goals as goal

pub loop-i-init : goal.loop-i-init
loop-i-init c = λ j h. absurd (not-suc-le-zero h)

pub returns-then-is_deep : goal.returns-then-is_deep
unfolding deep_by
returns-then-is_deep c =
    let l = c.loop-i in
    deep_found _ _ _ l.i l.invariant (omega (arith, c.min-i-end.ensures, c.loop-i-test.true)) (sym c.is_deep.ensures ∙ c.if-is_deep.true)

pub loop-i-preserved : goal.loop-i-preserved
unfolding deep_by
loop-i-preserved c = below_more _ _ c.loop-i.invariant (sym c.is_deep.ensures ∙ c.if-is_deep.false)

pub returns : goal.returns
returns c = let l = c.loop-i in none_deep _ _ _ l.i l.invariant (omega (arith, c.min-i-end.ensures, c.loop-i-test.false))
