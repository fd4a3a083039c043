-- The one written form: lower-case names, single spaces, a line feed after each line, one row a line.
use Rattle.std.specs.Prelude.{Bool, cond, List, [], ◌∷◌, ◌++◌, ℕ, suc, eqb, leb, ℤ, length}
use Rattle.words.specs.Digits.{digits, written, bytes}
use Rattle.words.specs.Inches.{inches}
use Rattle.grids.specs.Headers.{Header}
use Rattle.grids.specs.Cells.{cell_fits, depth_fits, passing}
use Rattle.grids.specs.Judging.{Verdict, judged}

unfoldable pub name_line : List ℕ → List ℕ → List ℕ
name_line name value = name ++ 32 ∷ (value ++ 10 ∷ [])

unfoldable pub header_form : Header → List ℕ
header_form h =
    name_line (bytes "ncols") (digits h.grid.width)
    ++ name_line (bytes "nrows") (digits h.grid.height)
    ++ name_line (bytes "xllcorner") h.x_corner
    ++ name_line (bytes "yllcorner") h.y_corner
    ++ name_line (bytes "cellsize") h.cell_size
    ++ name_line (bytes "nodata_value") (written h.no_data)

-- after a cell, of which with it `done` stand in the row: a line feed where that is all of them, else a space; and how many stand in the row then
unfoldable pub blank_after : ℕ → ℕ → ℕ
blank_after columns done = cond (eqb done columns) 10 32

unfoldable pub done_after : ℕ → ℕ → ℕ
done_after columns done = cond (eqb done columns) 0 done

unfoldable pub rows : {A : Type 0} → (A → List ℕ) → ℕ → ℕ → List A → List ℕ
rows form columns done [] = []
rows form columns done (x ∷ xs) = form x ++ blank_after columns (suc done) ∷ rows form columns (done_after columns (suc done)) xs

unfoldable pub grid_form : {A : Type 0} → (A → List ℕ) → Header → List A → List ℕ
grid_form form h xs = header_form h ++ rows form h.grid.width 0 xs

-- whole numbers, and depths in inches
abbrev pub whole_form : Header → List ℤ → List ℕ
whole_form h cells = grid_form written h cells

abbrev pub inches_form : Header → List ℕ → List ℕ
inches_form h units = grid_form inches h units

-- whether a buffer of so many bytes takes cells that pass by the no-data number
abbrev pub form_verdict : {A : Type 0} → (ℤ → A → Bool) → (A → List ℕ) → Header → List A → ℕ → Verdict
form_verdict passes form h xs room = judged h (passing (passes h.no_data) xs) (length xs) (leb (length (grid_form form h xs)) room)

-- whether it takes whole numbers, and depths in inches
unfoldable pub whole_verdict : Header → List ℤ → ℕ → Verdict
whole_verdict h cells room = judged h (passing (cell_fits h.no_data) cells) (length cells) (leb (length (whole_form h cells)) room)

unfoldable pub inches_verdict : Header → List ℕ → ℕ → Verdict
inches_verdict h units room = judged h (passing (depth_fits h.no_data) units) (length units) (leb (length (inches_form h units)) room)

-- the farthest from zero that a whole number of 32 bits lies, and the most bytes of one
abbrev pub most_far : ℕ
most_far = 2147483648

abbrev pub most_signed : ℕ
most_signed = 11

-- the most bytes of a line after its name, with a number of columns or rows, a text, or the no-data number; and of the header
abbrev pub most_size : ℕ
most_size = 12

abbrev pub most_text : ℕ
most_text = 22

abbrev pub most_no_data : ℕ
most_no_data = 13

abbrev pub most_header : ℕ
most_header = 151

-- of a whole number of 32 bits or a depth of 64 with the blank after it
abbrev pub most_whole : ℕ
most_whole = 12

abbrev pub most_depth : ℕ
most_depth = 26
