-- Steps of a row or a column as the code takes them, with one added to each: a sum of 0 is over the near edge, one past the size over the far
-- edge, and any other is one more than the row or column stepped to. Where a cell points then is a cell of the grid, or 4,096, or 4,097;
-- and a cell's row and column are its number's quotient and remainder by the width.
use mathlib.Core.Path.{◌≡◌, refl, sym, ap, ◌∙◌}
use Prim.Native.Nat.{ℕ, zero, suc, ◌+◌, ◌-◌, ◌*◌, ◌/◌, ◌%◌, ◌≤◌, ◌<◌}
use native.Mathlib.Nat.{mul-add-mod_self_right, mod-eq_of_lt}
use native.Mathlib.Omega.{arith}
use lib.Arith.{digits_div}
use borrow.Author.Tests.{lt-ltb, le-ltb, ne_eqb}
use Rattle.theory.specs.Lowest.{Found, at, nowhere}
use Rattle.paper.specs.Directions.{Way, toward, closed, way_of, stepped, cell_at, goes_by}
use Rattle.paper.specs.Setup.{pointed}
use Rattle.survey.specs.Ways.{step_of, goes_from}

pub near_edge : (size k d : ℕ) → k + d ≡ 0 → stepped size (step_of d) k ≡ nowhere
unfolding stepped step_of
near_edge size zero zero h = refl
near_edge size zero (suc d) h = absurd (omega arith)
near_edge size (suc k) d h = absurd (omega arith)

pub far_edge : (size k d : ℕ) → d ≤ 2 → k < size → size < k + d → stepped size (step_of d) k ≡ nowhere
unfolding stepped step_of
far_edge size k zero m l h = absurd (omega arith)
far_edge size k (suc zero) m l h = absurd (omega arith)
far_edge size k (suc (suc zero)) m l h = rw (le-ltb (suc k) size (omega arith))
far_edge size k (suc (suc (suc d))) m l h = absurd (omega arith)

pub step_to : (size k d : ℕ) → d ≤ 2 → 0 < k + d → k + d ≤ size → stepped size (step_of d) k ≡ at (k + d - 1)
unfolding stepped step_of
step_to size zero zero m l h = absurd (omega arith)
step_to size (suc k) zero m l h = ap at (omega arith)
step_to size k (suc zero) m l h = ap at (omega arith)
step_to size k (suc (suc zero)) m l h = rw (lt-ltb (suc k) size (omega arith)) (ap at (omega arith))
step_to size k (suc (suc (suc d))) m l h = absurd (omega arith)

pub over_row : {row : Found} (width : ℕ) (column : Found) → row ≡ nowhere → 4096 ≡ pointed (cell_at width row column)
unfolding pointed cell_at
over_row width (at c) e = rw e
over_row width nowhere e = rw e

pub over_column : {column : Found} (width : ℕ) (row : Found) → column ≡ nowhere → 4096 ≡ pointed (cell_at width row column)
unfolding pointed cell_at
over_column width (at r) e = rw e
over_column width nowhere e = rw e

pub at_cell : {y x : Found} (width row column : ℕ) → y ≡ at row → x ≡ at column → row * width + column ≡ pointed (cell_at width y x)
unfolding pointed cell_at
at_cell width row column e f = rw (e, f)

pub other_byte : (byte : ℕ) → (byte ≡ 1 → ⊥) → (byte ≡ 2 → ⊥) → (byte ≡ 4 → ⊥) → (byte ≡ 8 → ⊥) → (byte ≡ 16 → ⊥) → (byte ≡ 32 → ⊥)
    → (byte ≡ 64 → ⊥) → (byte ≡ 128 → ⊥) → way_of byte ≡ closed
unfolding way_of
other_byte byte a b c d e f g h =
    rw (ne_eqb byte 1 a, ne_eqb byte 2 b, ne_eqb byte 4 c, ne_eqb byte 8 d, ne_eqb byte 16 e, ne_eqb byte 32 f, ne_eqb byte 64 g, ne_eqb byte 128 h)

pub pointed_closed : (width height row column : ℕ) → pointed (goes_from width height row column closed) ≡ 4097
unfolding pointed goes_from
pointed_closed width height row column = refl

-- by the cell's number
pub goes_by_lem : (width height i : ℕ) (way : Way) → goes_from width height (i / width) (i % width) way ≡ goes_by width height i way
unfolding goes_from goes_by
goes_by_lem width height i (toward down right) = refl
goes_by_lem width height i closed = refl

pub goes_at : (width height row column : ℕ) (way : Way) → column < width
    → goes_from width height row column way ≡ goes_by width height (row * width + column) way
goes_at width height row column way h =
    (λ k. goes_from width height (sym (digits_div row h) k) (sym (mul-add-mod_self_right row width column ∙ mod-eq_of_lt h) k) way)
    ∙ goes_by_lem width height (row * width + column) way
