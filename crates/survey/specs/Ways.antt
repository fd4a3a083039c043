-- The ways as the code numbers them, and where a cell goes by its row and column.
use Rattle.std.specs.Prelude.{cond, ℕ, ◌/◌, ◌%◌, eqb}
use Rattle.paper.specs.Directions.{Step, less, same, more, Way, toward, closed, Goes, stays, stepped, cell_at}

-- the steps as the code numbers them
unfoldable pub step_of : ℕ → Step
step_of k = cond (eqb k 0) less (cond (eqb k 1) same more)

-- both steps as one number, 4 × the row's + the column's, or 12
unfoldable pub way_as : ℕ → Way
way_as k = cond (eqb k 12) closed (toward (step_of (k / 4)) (step_of (k % 4)))

-- where a cell of that row and column goes
unfoldable pub goes_from : ℕ → ℕ → ℕ → ℕ → Way → Goes
goes_from width height row column (toward down right) = cell_at width (stepped height down row) (stepped width right column)
goes_from width height row column closed = stays
