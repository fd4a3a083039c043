-- `knots::retained` meets its contract: the place that it reads is the knot's, in the rows or at the end.
use Rattle.std.proofs.Common.{arith}
use Rattle.retention.proofs.RetentionTable.{place_below, place_past}
use Rattle.retention.proofs.knots.retained.Goals as goal

pub bounds-f-k : goal.bounds-f-k
bounds-f-k c = omega (arith, c.if-k-lt-LAST_KNOT.true)

pub returns-then-k-lt-LAST_KNOT : goal.returns-then-k-lt-LAST_KNOT
returns-then-k-lt-LAST_KNOT c = rw (place_below c.args.k (omega (arith, c.if-k-lt-LAST_KNOT.true)))

pub returns-else-k-lt-LAST_KNOT : goal.returns-else-k-lt-LAST_KNOT
returns-else-k-lt-LAST_KNOT c = rw (place_past c.args.k (omega (arith, c.if-k-lt-LAST_KNOT.false)))
