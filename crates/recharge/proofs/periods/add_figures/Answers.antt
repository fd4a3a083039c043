-- `periods::add_figures` meets its contract: the figures passed so far are added, and no sum overflows, since those ahead are as they were lent.
use Rattle.std.proofs.Common.{◌≡◌, ◌+◌, ◌≤◌, ◌<◌, le_refl, arith, length, get_or, rules}
use Rattle.recharge.specs.Totals.{roomy}
use Rattle.recharge.proofs.SumsLaws.{added_none, added_next}
use Rattle.recharge.proofs.periods.add_figures.Goals.{After-wide}
use Rattle.recharge.proofs.periods.add_figures.Goals as goal

-- the sum lies within the lent ones, and is as it was lent; its figure has 32 bits
inside : (c : goal.After-wide) → c.args.from + c.loop-i.i < length c.args.sums.now
inside c = omega (arith, c.requires.0, c.loop-i-test.true)

inside_now : (c : goal.After-wide) → c.args.from + c.loop-i.i < length c.loop-i.sums
inside_now c = rw c.loop-i.invariant.kept (inside c)

low : (c : goal.After-wide) → get_or c.loop-i.sums (c.args.from + c.loop-i.i) 0 ≤ roomy
low c = rw (c.loop-i.invariant.ahead c.loop-i.i (le_refl _)) (c.requires.1.each _)

small : (c : goal.After-wide) → c.wide.result ≤ 4294967295
small c = omega (arith, c.wide.ensures, (c.shared_slice_known-in-loop-i-1.given c.loop-i.i).fits)

pub loop-i-init : goal.loop-i-init
loop-i-init c = added_none _ _ _

pub overflow_add-sums : goal.overflow_add-sums
overflow_add-sums c = record { fits = omega (arith, inside (goal.at.overflow_add-sums c).After-wide, c.requires.1.few) }

pub offset_bounds-sums-from : goal.offset_bounds-sums-from
offset_bounds-sums-from c = record { fits = omega (arith, inside (goal.at.offset_bounds-sums-from c).After-wide, c.requires.1.few) }

pub bounds-sums-from : goal.bounds-sums-from
bounds-sums-from c = inside_now (goal.at.bounds-sums-from c).After-wide

pub overflow_add-sums-in-loop-i : goal.overflow_add-sums-in-loop-i
overflow_add-sums-in-loop-i c = record { fits = omega (arith, low (goal.at.overflow_add-sums-in-loop-i c).After-wide, small (goal.at.overflow_add-sums-in-loop-i c).After-wide) }

pub bounds-sums-from-in-loop-i : goal.bounds-sums-from-in-loop-i
bounds-sums-from-in-loop-i c = inside_now (goal.at.bounds-sums-from-in-loop-i c).After-wide

pub loop-i-preserved : goal.loop-i-preserved
loop-i-preserved c =
    added_next _ _ _ _ _ c.loop-i.invariant _ c.wide.ensures (small (goal.at.loop-i-preserved c).After-wide) (inside (goal.at.loop-i-preserved c).After-wide)

pub shape_of-sums : goal.shape_of-sums
shape_of-sums c = c.loop-i.invariant.kept

pub returns : goal.returns
returns c = let all : c.loop-i.i ≡ length c.args.figures.now = omega arith in rw all at c.loop-i.invariant
