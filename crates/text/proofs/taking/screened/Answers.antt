-- `taking::screened` meets its contract: the tests decide, and numbers that pass them all are so few that no sum of them is too large.
use Rattle.std.proofs.Common.{◌≡◌, sym, ◌∙◌, arith, rules}
use Rattle.text.specs.Program.{screen}
use Rattle.std.proofs.Common.{Ok, Err}
use Rattle.text.proofs.TakingLaws.{taken_refused, taken_ready, days_inside, days_small}
use Rattle.text.proofs.taking.screened.Goals.{After-cells_from-cells_from}
use Rattle.text.proofs.taking.screened.Goals as goal

-- the tests' answer where they pass
passed : (c : goal.After-cells_from-cells_from) → screen c.args.numbers.now ≡ Ok c.in_ok-cells.cells
passed c = sym c.screen.ensures ∙ c.in_ok-cells.was

pub overflow_mul-days_from : goal.overflow_mul-days_from
overflow_mul-days_from c = omega (arith, days_small _ _ (passed (goal.at.overflow_mul-days_from c).After-cells_from-cells_from) _ c.cells_from-cells_from.ensures.0)

pub overflow_add-days_from : goal.overflow_add-days_from
overflow_add-days_from c = omega (arith, days_small _ _ (passed (goal.at.overflow_add-days_from c).After-cells_from-cells_from) _ c.cells_from-cells_from.ensures.0)

pub overflow_sub-days : goal.overflow_sub-days
overflow_sub-days c = days_inside _ _ (passed (goal.at.overflow_sub-days c).After-cells_from-cells_from) _ c.cells_from-cells_from.ensures.0

pub returns-in_err-cells : goal.returns-in_err-cells
returns-in_err-cells c =
    let why = c.in_err-cells.field-0.0 in
    let same : c.from_residual.result ≡ Err why = search rules in
    rw same (taken_refused _ why (sym c.screen.ensures ∙ c.in_err-cells.was))

pub returns : goal.returns
returns c = taken_ready _ _ (passed (goal.at.returns c).After-cells_from-cells_from) _ c.cells_from-cells_from.ensures.0
