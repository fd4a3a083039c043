-- `knots::retention` meets its contract: the rule is written from the front of the array on, first the kept entries, then each entry one step after
-- the one that stands a row before it; and the last kept entry ends it.
use Rattle.std.proofs.Common.{◌≡◌, arith, rules}
use Rattle.retention.proofs.RetentionTable.{filled_none, filled_kept, filled_next, filled_whole}
use Rattle.retention.proofs.knots.retention.Goals as goal

pub loop-i-init : goal.loop-i-init
loop-i-init c = filled_none

pub loop-i-preserved : goal.loop-i-preserved
loop-i-preserved c = filled_kept _ _ _ c.loop-i-test.true c.kept_entries-kept.ensures c.loop-i.invariant

pub loop-i-2-init : goal.loop-i-2-init
loop-i-2-init c =
    let all : c.loop-i.i ≡ 128 = omega (arith, c.loop-i-test.false, c.loop-i.auto.i-end) in
    rw all at c.loop-i.invariant

pub loop-i-2-preserved : goal.loop-i-2-preserved
loop-i-2-preserved c =
    let s = c.loop-i-2 in
    filled_next _ _ _ s.auto.i (omega (arith, c.loop-i-2-test.true)) s.invariant c.next.ensures

pub returns : goal.returns
returns c =
    let s = c.loop-i-2 in
    let whole : s.i ≡ 2048 = omega (arith, s.invariant.far, c.loop-i-2-test.false) in
    filled_whole _ _ c.kept_entries-kept.ensures (rw whole at s.invariant)
