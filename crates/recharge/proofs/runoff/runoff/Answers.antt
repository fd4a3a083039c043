-- `runoff::runoff` meets its contract: the paper's law `runoff_64` is the code's formula, and with c ≤ 100 and w below the limit nothing in it passes 64 bits.
use Rattle.std.proofs.Common.{sym, ℕ, zero, suc, ◌-◌, ◌*◌, ◌/◌, ◌≤◌, ◌<◌, zero-le, suc-le-suc, le_trans, le_of_eq, not-suc-le-zero, mul-le-mul, div-le_self, zero-mul, arith}
use Rattle.paper.specs.Runoff.{spread}
use Rattle.paper.proofs.RunoffLaws.{runoff_none, runoff_64, runoff_64_room}
use Rattle.recharge.proofs.runoff.runoff.Goals as goal

square_most : (c : ℕ) → 100000 * (100 - c) * (100000 * (100 - c)) ≤ 100000000000000
square_most c = mul-le-mul {n₂ = 10000000} {m₂ = 10000000} (omega arith) (omega arith)

quotient_most : (c b : ℕ) → 100000 * (100 - c) * (100000 * (100 - c)) / b ≤ 100000000000000
quotient_most c b = le_trans (div-le_self _ b) (square_most c)

-- past the first test the curve number is not 0
above_none : (c x : ℕ) → 2000000 < c * x → 1 ≤ c
above_none zero x h = absurd (not-suc-le-zero (le_trans h (le_of_eq (zero-mul x))))
above_none (suc c) x h = suc-le-suc zero-le

pub overflow_mul-n : goal.overflow_mul-n
overflow_mul-n c = omega (arith, mul-le-mul c.requires.0 c.requires.1)

pub returns-then-n-water-le2000000 : goal.returns-then-n-water-le2000000
returns-then-n-water-le2000000 c = sym (runoff_none _ _ c.if-n-water-le2000000.true)

pub overflow_mul-b : goal.overflow_mul-b
overflow_mul-b c = omega (arith, mul-le-mul c.requires.0 c.requires.1)

pub overflow_add-b : goal.overflow_add-b
overflow_add-b c = omega (arith, mul-le-mul c.requires.0 c.requires.1)

pub overflow_mul-result : goal.overflow_mul-result
overflow_mul-result c = omega (arith, square_most c.args.c.0)

pub overflow_add-result : goal.overflow_add-result
unfolding spread
overflow_add-result c =
    omega (arith, mul-le-mul c.requires.0 c.requires.1, quotient_most c.args.c.0 (spread c.args.c.0 c.args.w.0))

pub overflow_sub-result : goal.overflow_sub-result
unfolding spread
overflow_sub-result c = runoff_64_room c.args.c.0 c.args.w.0 c.requires.0 c.if-n-water-le2000000.false

pub nonzero_div-result-2 : goal.nonzero_div-result-2
nonzero_div-result-2 c = omega (arith, above_none _ _ c.if-n-water-le2000000.false)

pub returns : goal.returns
unfolding spread
returns c = sym (runoff_64 c.args.c.0 c.args.w.0 (above_none _ _ c.if-n-water-le2000000.false) c.requires.0 c.if-n-water-le2000000.false)
