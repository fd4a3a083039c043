-- `recharge::order::leftover` meets its contract. The invariant: no cell below i waits. An entry is below 8192 just where its cell waits for none.
use Rattle.std.proofs.Common.{◌≡◌, ap, sym, false, true, arith, ltb, rules, below_more, below_none, lt-ltb, le-ltb}
use Rattle.theory.proofs.LowestLaws.{at_lowest, none_lowest}
use Rattle.records.specs.Places.{place_in}
use Rattle.survey.specs.Order.{waits}
use Rattle.survey.proofs.order.leftover.Goals as goal

pub loop-i-init : goal.loop-i-init
loop-i-init c = below_none _

pub returns-then-order-i-ge-ONE : goal.returns-then-order-i-ge-ONE
unfolding waits place_in
returns-then-order-i-ge-ONE c = let l = c.args.order.now in
    let i = c.loop-i.i in
    let one : ltb 0 (waits l i) ≡ true = lt-ltb 0 (waits l i) (omega arith) in
    let n = c.args.n in
    sym (ap place_in (at_lowest n (λ i. ltb 0 (waits l i)) i (search rules) one c.loop-i.invariant))

pub loop-i-preserved : goal.loop-i-preserved
unfolding waits
loop-i-preserved c = let l = c.args.order.now in
    let i = c.loop-i.i in
    let none : ltb 0 (waits l i) ≡ false = le-ltb 0 (waits l i) (omega arith) in
    below_more _ _ c.loop-i.invariant none

pub returns : goal.returns
unfolding place_in
returns c = let l = c.args.order.now in
    sym (ap place_in (none_lowest c.args.n (λ i. ltb 0 (waits l i)) (λ j h. c.loop-i.invariant j (omega arith))))
