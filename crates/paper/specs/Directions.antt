-- The direction byte (000, figure 3), by row and column.
use Rattle.std.specs.Prelude.{cond, ℕ, zero, suc, ◌+◌, ◌*◌, ◌/◌, ◌%◌, eqb, ltb}
use Rattle.theory.specs.Lowest.{Found, at, nowhere}

-- one row or column less, the same, one more
pub data Step : Type 0 where
  less same more : Step

-- the step of the row and of the column, or a closed depression
pub data Way : Type 0 where
  toward : Step → Step → Way
  closed : Way

unfoldable pub way_of : ℕ → Way
way_of byte =
    cond (eqb byte 1) (toward same more)
    (cond (eqb byte 2) (toward more more)
    (cond (eqb byte 4) (toward more same)
    (cond (eqb byte 8) (toward more less)
    (cond (eqb byte 16) (toward same less)
    (cond (eqb byte 32) (toward less less)
    (cond (eqb byte 64) (toward less same)
    (cond (eqb byte 128) (toward less more)
    closed)))))))

-- a row of `size` rows, or a column of `size` columns, after a step; nowhere over the edge
unfoldable pub stepped : ℕ → Step → ℕ → Found
stepped size less zero = nowhere
stepped size less (suc k) = at k
stepped size same k = at k
stepped size more k = cond (ltb (suc k) size) (at (suc k)) nowhere

-- where a cell's water goes: to a cell, over the edge, or it stays; open water points nowhere
pub data Goes : Type 0 where
  to : ℕ → Goes
  leaves : Goes
  stays : Goes
  open_water : Goes

-- cells are numbered from 0, row by row from the top left
unfoldable pub cell_at : ℕ → Found → Found → Goes
cell_at width (at row) (at column) = to (row * width + column)
cell_at width (at row) nowhere = leaves
cell_at width nowhere (at column) = leaves
cell_at width nowhere nowhere = leaves

unfoldable pub goes_by : ℕ → ℕ → ℕ → Way → Goes
goes_by width height i (toward down right) = cell_at width (stepped height down (i / width)) (stepped width right (i % width))
goes_by width height i closed = stays
