-- Refusal 12, of a grid that is read and of one that is written alike.
use Rattle.std.specs.Prelude.{Bool, cond, ◌&&◌, ℕ, eqb, ltb}
use Rattle.paper.specs.Setup.{cells_of}
use Rattle.grids.specs.Headers.{Header, header_fits}

pub data Verdict : Type 0 where
  accepted : Verdict
  refused : ℕ → Verdict

-- bad header or size, at 0; bad number or no-data cell, at the lowest, which is the first after those that pass; wrong count or short buffer, at 0
unfoldable pub judged : Header → ℕ → ℕ → Bool → Verdict
judged h passing count enough =
    cond (header_fits h)
    (cond (ltb passing count) (refused passing) (cond (eqb count (cells_of h.grid) && enough) accepted (refused 0)))
    (refused 0)

unfoldable pub grid_number : Verdict → ℕ
grid_number accepted = 0
grid_number (refused place) = 12

unfoldable pub grid_place : Verdict → ℕ
grid_place accepted = 0
grid_place (refused place) = place

-- what holds of an accepted grid, and of a refused one
unfoldable pub on_accepted : {A : Type 0} → Verdict → A → A → A
on_accepted accepted x y = x
on_accepted (refused place) x y = y
