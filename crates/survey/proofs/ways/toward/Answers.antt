-- `recharge::ways::toward` meets its contract: each early return is a step over one of the four edges, and the last a step to a cell of the
-- grid, whose number is below width times height.
use Rattle.std.proofs.Common.{◌+◌, ◌*◌, ◌-◌, ◌≤◌, ◌<◌, mul-le-mul_right, arith}
use Rattle.paper.specs.Directions.{stepped}
use Rattle.survey.specs.Ways.{step_of}
use Rattle.survey.proofs.DirectionLaws.{near_edge, far_edge, step_to, over_row, over_column, at_cell}
use Rattle.survey.proofs.ways.toward.Goals.{Start}
use Rattle.survey.proofs.ways.toward.Goals as goal

-- the grid's sides are at most 4,096
small : (s : goal.Start) → (s.args.width ≤ 4096) × (s.args.height ≤ 4096)
small s =
    let p = s.requires in (
      omega (arith, mul-le-mul_right {m = 1} {n = s.args.height} s.args.width (omega arith)),
      omega (arith, mul-le-mul_right {m = 1} {n = s.args.width} s.args.height (omega arith)),
    )

-- the row stepped to is one of the grid's
in_grid : (s : goal.Start) → s.args.row + s.args.down ≤ s.args.height → s.args.column + s.args.right ≤ s.args.width
    → 0 < s.args.row + s.args.down → 0 < s.args.column + s.args.right
    → (s.args.row + s.args.down - 1) * s.args.width + (s.args.column + s.args.right - 1) < 4096
in_grid s a b d e =
    let p = s.requires in
    omega (arith, mul-le-mul_right {m = s.args.row + s.args.down - 1 + 1} {n = s.args.height} s.args.width (omega arith))

pub overflow_add-y : goal.overflow_add-y
overflow_add-y c = let e = small (goal.at.overflow_add-y c).Start in record { fits = omega (arith, e.1, c.requires) }

pub overflow_add-x : goal.overflow_add-x
overflow_add-x c = let e = small (goal.at.overflow_add-x c).Start in record { fits = omega (arith, e.0, c.requires) }

pub returns-then-y-eq0 : goal.returns-then-y-eq0
returns-then-y-eq0 c = let s = c.args in
    over_row s.width (stepped s.width (step_of s.right) s.column) (near_edge s.height s.row s.down c.if-y-eq0.true)

pub returns-then-height-y : goal.returns-then-height-y
returns-then-height-y c = let p = c.requires in
    let s = c.args in
    over_row s.width (stepped s.width (step_of s.right) s.column)
    (far_edge s.height s.row s.down (omega arith) (omega arith) (omega arith))

pub returns-then-x-eq0 : goal.returns-then-x-eq0
returns-then-x-eq0 c = let s = c.args in
    over_column s.width (stepped s.height (step_of s.down) s.row) (near_edge s.width s.column s.right c.if-x-eq0.true)

pub returns-then-width-x : goal.returns-then-width-x
returns-then-width-x c = let p = c.requires in
    let s = c.args in
    over_column s.width (stepped s.height (step_of s.down) s.row)
    (far_edge s.width s.column s.right (omega arith) (omega arith) (omega arith))

pub overflow_mul-result : goal.overflow_mul-result
overflow_mul-result c = record { fits = omega (arith, in_grid (goal.at.overflow_mul-result c).Start (omega arith) (omega arith) (omega arith) (omega arith)) }

pub overflow_add-result : goal.overflow_add-result
overflow_add-result c = record { fits = omega (arith, in_grid (goal.at.overflow_add-result c).Start (omega arith) (omega arith) (omega arith) (omega arith)) }

pub returns : goal.returns
returns c = let p = c.requires in
    let s = c.args in
    at_cell s.width (s.row + s.down - 1) (s.column + s.right - 1)
    (step_to s.height s.row s.down (omega arith) (omega arith) (omega arith))
    (step_to s.width s.column s.right (omega arith) (omega arith) (omega arith))
