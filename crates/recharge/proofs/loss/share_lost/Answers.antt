-- `loss::share_lost` meets its contract: the entry read is F(k), or F(2,048) past it, so that the sums are the two cases of L.
use Rattle.std.proofs.Common.{◌≡◌, ◌∙◌, ap, List, ℕ, ◌*◌, ◌/◌, ◌≤◌, ◌<◌, min, arith, get_or}
use Rattle.paper.specs.Retention.{F}
use Rattle.paper.proofs.RetentionLaws.{F_most}
use Rattle.retention.specs.Retention.{place_of}
use Rattle.retention.proofs.RetentionTable.{table_at}
use Rattle.recharge.proofs.LossRoom.{knot_passed, Inside, inside, Past, past}
use Rattle.recharge.proofs.loss.share_lost.Goals.{After-wide-here}
use Rattle.recharge.proofs.loss.share_lost.Goals as goal

abbrev C : goal.After-wide-here → ℕ
C c = c.args.capacity.0

abbrev d : goal.After-wide-here → ℕ
d c = c.args.shortfall.0

-- the entry read from the lent array is F there
here : (c : goal.After-wide-here) → c.wide-here.result ≡ F (min (256 * d c / C c) 2048)
here c =
    let k = c.index_of-i in
    c.wide-here.ensures ∙ c.retained.ensures ∙ ap (λ (l : List ℕ). get_or l (place_of k.result) 0) c.requires.3 ∙ table_at k.result
    ∙ ap (λ (i : ℕ). F (min i 2048)) k.ensures

top : (c : goal.After-wide-here) → c.wide-here.result ≤ 1048576
top c = rw (here c) (F_most _)

between : (c : goal.After-wide-here) → c.index_of-i.result < 2048 → Inside (C c) (d c) c.wide-here.result c.wide-rest.result
between c low =
    inside _ _ _ _ c.requires.1 c.requires.2 (rw c.index_of-i.ensures at low) (here c) c.wide-rest.ensures

beyond : (c : goal.After-wide-here) → 2048 ≤ c.index_of-i.result → Past (C c) (d c) c.wide-here.result
beyond c high = past _ _ _ c.requires.1 (rw c.index_of-i.ensures at high) (here c)

pub overflow_mul-k : goal.overflow_mul-k
overflow_mul-k c = omega (arith, (knot_passed c.args.capacity.0 c.args.shortfall.0 c.requires.2).1)

pub overflow_sub-parts : goal.overflow_sub-parts
overflow_sub-parts c = (knot_passed c.args.capacity.0 c.args.shortfall.0 c.requires.2).0

pub overflow_sub-result : goal.overflow_sub-result
overflow_sub-result c = top (goal.at.overflow_sub-result c).After-wide-here

pub overflow_mul-result : goal.overflow_mul-result
overflow_mul-result c = omega (arith, (between (goal.at.overflow_mul-result c).After-wide-here c.if-i-lt-LAST_KNOT.true).risen)

pub overflow_mul-result-then-i-lt-LAST_KNOT : goal.overflow_mul-result-then-i-lt-LAST_KNOT
overflow_mul-result-then-i-lt-LAST_KNOT c = omega (arith, (between (goal.at.overflow_mul-result-then-i-lt-LAST_KNOT c).After-wide-here c.if-i-lt-LAST_KNOT.true).rising)

pub overflow_add-result : goal.overflow_add-result
overflow_add-result c = omega (arith, (between (goal.at.overflow_add-result c).After-wide-here c.if-i-lt-LAST_KNOT.true).risen, (between (goal.at.overflow_add-result c).After-wide-here c.if-i-lt-LAST_KNOT.true).rising)

pub overflow_sub-result-else-i-lt-LAST_KNOT : goal.overflow_sub-result-else-i-lt-LAST_KNOT
overflow_sub-result-else-i-lt-LAST_KNOT c = top (goal.at.overflow_sub-result-else-i-lt-LAST_KNOT c).After-wide-here

pub overflow_mul-result-else-i-lt-LAST_KNOT : goal.overflow_mul-result-else-i-lt-LAST_KNOT
overflow_mul-result-else-i-lt-LAST_KNOT c = omega (arith, (beyond (goal.at.overflow_mul-result-else-i-lt-LAST_KNOT c).After-wide-here c.if-i-lt-LAST_KNOT.false).risen)

pub returns-then-i-lt-LAST_KNOT : goal.returns-then-i-lt-LAST_KNOT
returns-then-i-lt-LAST_KNOT c = (between (goal.at.returns-then-i-lt-LAST_KNOT c).After-wide-here c.if-i-lt-LAST_KNOT.true).exact

pub returns-else-i-lt-LAST_KNOT : goal.returns-else-i-lt-LAST_KNOT
returns-else-i-lt-LAST_KNOT c = (beyond (goal.at.returns-else-i-lt-LAST_KNOT c).After-wide-here c.if-i-lt-LAST_KNOT.false).exact
