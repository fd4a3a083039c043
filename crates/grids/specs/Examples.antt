-- Worked examples: the one written form, another tool's text of the same grid, and what is refused where.
use Rattle.std.specs.Prelude.{true, false, List, [], ◌∷◌, ◌++◌, map, ◌≡◌, ℕ, pos, negsuc}
use Prim.Native.String.{String}
use Rattle.words.specs.Digits.{bytes}
use Rattle.grids.specs.Measures.{is_measure}
use Rattle.grids.specs.Headers.{Header}
use Rattle.grids.specs.Cells.{cell_fits}
use Rattle.grids.specs.Judging.{Verdict, accepted, refused}
use Rattle.grids.specs.Forms.{whole_form, inches_form, whole_verdict, inches_verdict}
use Rattle.grids.specs.Reading.{header_read, cells_read, read_verdict}

-- two columns, one row
abbrev pub small : Header
small =
    record {
      grid = record { width = 2; height = 1 };
      x_corner = bytes "305000.5";
      y_corner = bytes "-12";
      cell_size = bytes "30";
      no_data = negsuc 9998;
    }

abbrev pub head : String
head = "ncols 2\nnrows 1\nxllcorner 305000.5\nyllcorner -12\ncellsize 30\nnodata_value -9999\n"

-- with room for two cells
abbrev pub judged_as : List ℕ → Verdict
judged_as cells = read_verdict (bytes head ++ cells) 2

pub record Examples : Type 0 where
  -- a corner or a cell size, of at most 20 characters
  pub measures : map is_measure (bytes "0" ∷ bytes "-0.50" ∷ bytes "12345678901234567890" ∷ []) ≡ true ∷ true ∷ true ∷ []
  pub no_measures :
      map is_measure (bytes "-" ∷ bytes ".5" ∷ bytes "5." ∷ bytes "1.2.3" ∷ bytes "+1" ∷ bytes "1e5" ∷ bytes "--1" ∷ bytes "123456789012345678901" ∷ [])
      ≡ false ∷ false ∷ false ∷ false ∷ false ∷ false ∷ false ∷ false ∷ []
  pub whole : whole_form small (pos 128 ∷ negsuc 4 ∷ []) ≡ bytes head ++ bytes "128 -5\n"
  pub depths : inches_form small (12345 ∷ 7 ∷ []) ≡ bytes head ++ bytes "1.2345 0.0007\n"
  -- capitals, runs of blanks, a row over two lines, no line feed at the end
  pub header : header_read (bytes "NCOLS  2\nNRows  1\nXLLCORNER 305000.5 yllcorner -12\ncellsize 30\nNODATA_value -9999\n128 \n -5") ≡ small
  pub cells : cells_read (bytes "NCOLS  2\nNRows  1\nXLLCORNER 305000.5 yllcorner -12\ncellsize 30\nNODATA_value -9999\n128 \n -5") ≡ pos 128 ∷ negsuc 4 ∷ []
  -- a no-data cell, a word that is no number, the lower of two, and one past the last cell, which comes before the count; then the count, and the room
  pub good : judged_as (bytes "128 -5\n") ≡ accepted
  pub no_data_lem : judged_as (bytes "128 -9999\n") ≡ refused 1
  pub no_number : judged_as (bytes "1.0 5\n") ≡ refused 0
  pub lower_of_two : judged_as (bytes "1 x -9999\n") ≡ refused 1
  pub past_the_last : judged_as (bytes "1 2 x\n") ≡ refused 2
  pub too_many : judged_as (bytes "1 2 3\n") ≡ refused 0
  pub too_few : judged_as (bytes "1\n") ≡ refused 0
  pub no_room : read_verdict (bytes head ++ bytes "1 2\n") 1 ≡ refused 0
  -- a header is tested before the cells: a name, a size, a corner
  pub other_name : read_verdict (bytes "ncols 2\nnrows 1\nxllcenter 0\nyllcorner 0\ncellsize 30\nnodata_value -9999\n1 x\n") 2 ≡ refused 0
  pub no_columns : read_verdict (bytes "ncols 0\nnrows 1\nxllcorner 0\nyllcorner 0\ncellsize 30\nnodata_value -9999\n1 x\n") 2 ≡ refused 0
  pub negative_rows : read_verdict (bytes "ncols 2\nnrows -1\nxllcorner 0\nyllcorner 0\ncellsize 30\nnodata_value -9999\n1 x\n") 2 ≡ refused 0
  pub point_last : read_verdict (bytes "ncols 2\nnrows 1\nxllcorner 5.\nyllcorner 0\ncellsize 30\nnodata_value -9999\n1 x\n") 2 ≡ refused 0
  -- written: the room to the byte, the no-data number, in inches too, and numbers of nine digits and of ten
  pub just_room : whole_verdict small (pos 1 ∷ pos 2 ∷ []) 84 ≡ accepted
  pub a_byte_short : whole_verdict small (pos 1 ∷ pos 2 ∷ []) 83 ≡ refused 0
  pub no_data_written : whole_verdict small (pos 1 ∷ negsuc 9998 ∷ []) 100 ≡ refused 1
  pub nine_digits :
      map (cell_fits (negsuc 9998)) (pos 999999999 ∷ pos 1000000000 ∷ negsuc 999999998 ∷ negsuc 999999999 ∷ negsuc 9997 ∷ negsuc 9998 ∷ [])
      ≡ true ∷ false ∷ true ∷ false ∷ true ∷ false ∷ []
  pub inches_of_it : inches_verdict (record { grid = small.grid; x_corner = small.x_corner; y_corner = small.y_corner; cell_size = small.cell_size; no_data = pos 3 }) (3 ∷ 30000 ∷ []) 120 ≡ refused 1
