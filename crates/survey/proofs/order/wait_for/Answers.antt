-- `order::wait_for` meets its contract: with at most 4,096 cells counted there is room for one more.
use Rattle.std.proofs.Common.{refl, arith, lt-ltb, le-ltb}
use Rattle.survey.specs.Order.{wait_for}
use Rattle.survey.proofs.order.wait_for.Goals as goal

pub overflow_add-order : goal.overflow_add-order
overflow_add-order c = record { fits = rw c.index_of-j.ensures (omega (arith, c.requires.1 (omega (arith, c.index_of-j.ensures)))) }

pub returns-then-j-n : goal.returns-then-j-n
unfolding wait_for
returns-then-j-n c =
    let a = c.args in
    rw (c.index_of-j.ensures, lt-ltb a.way a.n (omega (arith, c.index_of-j.ensures))) refl

pub returns-else-j-n : goal.returns-else-j-n
unfolding wait_for
returns-else-j-n c =
    let a = c.args in
    rw (le-ltb a.way a.n (omega (arith, c.index_of-j.ensures))) refl
