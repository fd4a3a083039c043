-- `ways::hand_on` meets its contract: where the way leads to a cell, that cell has room for what is handed on.
use Rattle.std.proofs.Common.{refl, arith, lt-ltb, le-ltb}
use Rattle.theory.specs.Lists.{added_at}
use Rattle.recharge.proofs.ways.hand_on.Goals as goal

pub overflow_add-arrived : goal.overflow_add-arrived
overflow_add-arrived c =
    record { fits = rw c.index_of-j.ensures (omega (arith, c.requires.1 (omega (arith, c.index_of-j.ensures)))) }

pub returns-then-j-n : goal.returns-then-j-n
unfolding added_at
returns-then-j-n c =
    let a = c.args in
    rw (c.index_of-j.ensures, lt-ltb a.way.0 a.n (omega (arith, c.index_of-j.ensures))) refl

pub returns-else-j-n : goal.returns-else-j-n
unfolding added_at
returns-else-j-n c =
    let a = c.args in
    rw (le-ltb a.way.0 a.n (omega (arith, c.index_of-j.ensures))) refl
