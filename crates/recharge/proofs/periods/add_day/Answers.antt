-- `periods::add_day` meets its contract: each figure has its part of the sums, and there is room for all five.
use native.Mathlib.Nat.{zero-mul, one-mul}
use lib.Dec.{lit≤}
use Rattle.recharge.proofs.SumsLaws.{headroom_first, headroom_next, addable, day_added}
use Rattle.recharge.proofs.periods.add_day.Goals as goal

-- the room that is left after each addition is enough for the next
pub add_figures-requires : goal.add_figures-requires
add_figures-requires c =
    rw (zero-mul c.args.n) at (addable {part = 0} c.args.intercepted.now (headroom_first _ _ _ c.requires) (lit≤ tt) c.requires.intercepted)

pub add_figures-requires-2 : goal.add_figures-requires-2
add_figures-requires-2 c =
    let room1 = headroom_next {more = 4} (headroom_first _ _ _ c.requires) c.add_figures.ensures in
    rw (one-mul c.args.n) at (addable {part = 1} c.args.outflow.now room1 (lit≤ tt) c.requires.outflow)

pub add_figures-requires-3 : goal.add_figures-requires-3
add_figures-requires-3 c =
    let room1 = headroom_next {more = 4} (headroom_first _ _ _ c.requires) c.add_figures.ensures in
    let room2 = headroom_next {more = 3} room1 c.add_figures-2.ensures in
    addable {part = 2} c.args.evapotranspired.now room2 (lit≤ tt) c.requires.evapotranspired

pub add_figures-requires-4 : goal.add_figures-requires-4
add_figures-requires-4 c =
    let room1 = headroom_next {more = 4} (headroom_first _ _ _ c.requires) c.add_figures.ensures in
    let room2 = headroom_next {more = 3} room1 c.add_figures-2.ensures in
    let room3 = headroom_next {more = 2} room2 c.add_figures-3.ensures in
    addable {part = 3} c.args.recharged.now room3 (lit≤ tt) c.requires.recharged

pub add_figures-requires-5 : goal.add_figures-requires-5
add_figures-requires-5 c =
    let room1 = headroom_next {more = 4} (headroom_first _ _ _ c.requires) c.add_figures.ensures in
    let room2 = headroom_next {more = 3} room1 c.add_figures-2.ensures in
    let room3 = headroom_next {more = 2} room2 c.add_figures-3.ensures in
    let room4 = headroom_next {more = 1} room3 c.add_figures-4.ensures in
    addable {part = 4} c.args.rejected.now room4 (lit≤ tt) c.requires.rejected

pub returns : goal.returns
returns c =
    day_added c.args.n _ _ _ _ _ _ _ c.requires c.add_figures.ensures c.add_figures-2.ensures c.add_figures-3.ensures
    c.add_figures-4.ensures c.add_figures-5.ensures
