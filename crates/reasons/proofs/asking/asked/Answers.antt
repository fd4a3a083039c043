-- `asking::asked` meets its contract: by whether the cell is in the grid, and whether one of tests 1 to 4 refused.
use Rattle.std.proofs.Common.{lt-ltb, le-ltb, sym, ◌∙◌, ap, refl, arith}
use Rattle.records.specs.Verdicts.{verdict_as}
use Rattle.reasons.proofs.AskingLaws.{asked_inside, asked_early, asked_outside, early_refusal, late_refusal, no_number}
use Rattle.reasons.proofs.asking.asked.Goals as goal

pub returns-then-cell-cells : goal.returns-then-cell-cells
returns-then-cell-cells c = sym (asked_inside _ _ _ (lt-ltb _ _ (rw c.cells.ensures at c.if-cell-cells.true)))

pub returns-then-number-le-CELL_TEST : goal.returns-then-number-le-CELL_TEST
returns-then-number-le-CELL_TEST c =
    sym (ap verdict_as c.in-Err.is)
    ∙ sym (asked_early _ _ _ (early_refusal _ _ (ap verdict_as c.in-Err.is) (rw c.number.ensures.0 at c.if-number-le-CELL_TEST.true)))

pub returns-else-number-le-CELL_TEST : goal.returns-else-number-le-CELL_TEST
returns-else-number-le-CELL_TEST c =
    sym (asked_outside _ _ _ (le-ltb _ _ (rw c.cells.ensures at c.if-cell-cells.false)) (late_refusal _ _ (ap verdict_as c.in-Err.is) (rw c.number.ensures.0 at c.if-number-le-CELL_TEST.false)))

pub returns-in_default : goal.returns-in_default
returns-in_default c = sym (asked_outside _ _ _ (le-ltb _ _ (rw c.cells.ensures at c.if-cell-cells.false)) (no_number _ (ap verdict_as c.in_default.is)))
