-- `recharge::order::peel` meets its contract. The outer invariant: the queue has the first `head` sources taken, and all that joined it after the
-- sources. The inner one: a cell is in hand, whose way is known, and with it that holds of one source more. The three ways out of a turn are the
-- three steps of the laws on the queue: the way leads outside, to a cell that waits for others too, or to one that joins the queue and is the next in
-- hand. The queue never has more than n cells, so the inner measure is n less its length.
use Rattle.std.proofs.Common.{◌≡◌, sym, subst, ℕ, ◌+◌, ◌≤◌, ◌<◌, ◌-◌, add-one, arith, rules, get_or, set}
use Rattle.survey.specs.Charts.{next_as}
use Rattle.survey.specs.Order.{queued}
use Rattle.survey.proofs.CountLaws.{way_next}
use Rattle.survey.proofs.PeelLaws.{InHand, hand_source, hand_outside, hand_waiting, hand_room, hand_fits, hand_still, hand_joins}
use Rattle.survey.proofs.order.peel.Goals.{After-index_of-cell, After-index_of-j, then-n-j, else-n-j+then-left-ge-ONE}
use Rattle.survey.proofs.order.peel.Goals as goal

-- the source, and where its entry is
source : (a : goal.After-index_of-cell)
    → a.index_of-cell.result ≡ queued a.loop-head.order a.loop-head.head
unfolding queued
source a = a.index_of-cell.ensures

source_inside : (a : goal.After-index_of-cell) → a.index_of-cell.result < a.args.n
source_inside a =
    let q = a.loop-head.invariant in
    omega (arith, source a, q.kept.queue.placed a.loop-head.head (omega (arith, q.behind)))

source_below : (a : goal.After-index_of-cell) → a.index_of-cell.result < 4096
source_below a = omega (arith, source_inside a, a.requires.0.most)

most : (w : goal.After-index_of-j) → w.args.n ≤ 4096
most w = w.requires.0.most

-- the cell in hand leads to j
abbrev Leads : goal.After-index_of-j → ℕ → Type 0
Leads w j =
    InHand w.args.n (next_as w.args.n w.args.ways.now) w.loop-head.head w.args.sources w.loop-cell.tail j
    w.loop-cell.order

in_hand : (w : goal.After-index_of-j) → Leads w w.index_of-j.result
in_hand w = subst (Leads w) (sym w.index_of-j.ensures) w.loop-cell.invariant

-- where j is a cell, the queue has room
room_left : (w : goal.After-index_of-j) → w.index_of-j.result < w.args.n → w.loop-cell.tail < w.args.n
room_left w i = hand_room (in_hand w) (most w) i

pub loop-head-init : goal.loop-head-init
loop-head-init c = c.requires.1

pub bounds-order-head : goal.bounds-order-head
bounds-order-head c = let q = c.loop-head.invariant in
    omega (arith, q.behind, q.kept.queue.short, c.requires.0.most)

pub offset_bounds-ways-cell : goal.offset_bounds-ways-cell
offset_bounds-ways-cell c = omega (arith, source_below (goal.at.offset_bounds-ways-cell c).After-index_of-cell)

pub bounds-ways-cell : goal.bounds-ways-cell
bounds-ways-cell c = source_below (goal.at.bounds-ways-cell c).After-index_of-cell

pub loop-cell-init : goal.loop-cell-init
loop-cell-init c = rw (way_next c.requires.0 c.index_of-cell.result (source_inside (goal.at.loop-cell-init c).After-index_of-cell), source (goal.at.loop-cell-init c).After-index_of-cell)
    (hand_source c.loop-head.invariant c.loop-head-test.true)

pub offset_bounds-ways-j : goal.offset_bounds-ways-j
offset_bounds-ways-j c = omega (arith, most (goal.at.offset_bounds-ways-j c).After-index_of-j)

pub bounds-ways-j : goal.bounds-ways-j
bounds-ways-j c = omega (arith, most (goal.at.bounds-ways-j c).After-index_of-j)

pub offset_bounds-order-j : goal.offset_bounds-order-j
offset_bounds-order-j c = omega (arith, most (goal.at.offset_bounds-order-j c).After-index_of-j)

pub bounds-order-j : goal.bounds-order-j
bounds-order-j c = omega (arith, most (goal.at.bounds-order-j c).After-index_of-j)

pub overflow_sub-left : goal.overflow_sub-left
overflow_sub-left c = hand_waiting (in_hand (goal.at.overflow_sub-left c).After-index_of-j) (most (goal.at.overflow_sub-left c).After-index_of-j) c.if-n-j.false

pub offset_bounds-order-j-in-loop-cell : goal.offset_bounds-order-j-in-loop-cell
offset_bounds-order-j-in-loop-cell c = omega (arith, most (goal.at.offset_bounds-order-j-in-loop-cell c).After-index_of-j)

pub bounds-order-j-in-loop-cell : goal.bounds-order-j-in-loop-cell
bounds-order-j-in-loop-cell c = omega (arith, most (goal.at.bounds-order-j-in-loop-cell c).After-index_of-j)

pub offset_bounds-order-tail : goal.offset_bounds-order-tail
offset_bounds-order-tail c = omega (arith, most (goal.at.offset_bounds-order-tail c).After-index_of-j, room_left (goal.at.offset_bounds-order-tail c).After-index_of-j c.if-n-j.false)

pub bounds-order-tail : goal.bounds-order-tail
bounds-order-tail c = omega (arith, most (goal.at.bounds-order-tail c).After-index_of-j, room_left (goal.at.bounds-order-tail c).After-index_of-j c.if-n-j.false)

pub overflow_add-order : goal.overflow_add-order
overflow_add-order c = record { fits = omega (arith, c.index_of-j.ensures, hand_fits (in_hand (goal.at.overflow_add-order c).After-index_of-j) (most (goal.at.overflow_add-order c).After-index_of-j) c.if-n-j.false) }

pub bounds-order-tail-in-loop-cell : goal.bounds-order-tail-in-loop-cell
bounds-order-tail-in-loop-cell c = omega (arith, most (goal.at.bounds-order-tail-in-loop-cell c).After-index_of-j, room_left (goal.at.bounds-order-tail-in-loop-cell c).After-index_of-j c.if-n-j.false)

pub overflow_add-tail : goal.overflow_add-tail
overflow_add-tail c = omega (arith, most (goal.at.overflow_add-tail c).After-index_of-j, room_left (goal.at.overflow_add-tail c).After-index_of-j c.if-n-j.false)

pub loop-cell-smaller : goal.loop-cell-smaller
loop-cell-smaller c = omega (arith, room_left (goal.at.loop-cell-smaller c).After-index_of-j c.if-n-j.false)

pub loop-cell-preserved : goal.loop-cell-preserved
loop-cell-preserved c = let s = c.args in
    let j = c.index_of-j.result in
    let i : j < s.n = c.if-n-j.false in
    let l = c.loop-cell.order in
    let tail = c.loop-cell.tail in
    let less = set l j (get_or l j 0 - 8192) in
    let joined : ℕ → Type 0 = λ x. InHand s.n (next_as s.n s.ways.now) c.loop-head.head s.sources (tail + 1) (next_as s.n s.ways.now j)
    (set less tail (get_or less tail 0 + x)) in
    rw (way_next c.requires.0 j i)
    (subst joined c.index_of-j.ensures (hand_joins (in_hand (goal.at.loop-cell-preserved c).After-index_of-j) (most (goal.at.loop-cell-preserved c).After-index_of-j) i (omega (arith, c.if-left-ge-ONE.false))))

pub loop-head-preserved : goal.loop-head-preserved
loop-head-preserved c =
    rw add-one
    (elim c.if-n-j.branch [
      | then-n-j b ↦ rw b.order-is (hand_outside (in_hand (goal.at.loop-head-preserved c).After-index_of-j) (most (goal.at.loop-head-preserved c).After-index_of-j) b.if-n-j.true)
      | else-n-j+then-left-ge-ONE b ↦ rw b.order-is (hand_still (in_hand (goal.at.loop-head-preserved c).After-index_of-j) (most (goal.at.loop-head-preserved c).After-index_of-j) b.if-n-j.false (omega (arith, b.if-left-ge-ONE.true)))
    ])

pub returns : goal.returns
returns c = let all : c.loop-head.head ≡ c.args.sources = omega arith in
    rw all at c.loop-head.invariant
