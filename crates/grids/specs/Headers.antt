-- A grid's header: six names, each with its value, in this order.
use Rattle.std.specs.Prelude.{Bool, true, false, cond, ◌&&◌, List, [], ◌∷◌, ℕ, ◌+◌, eqb, leb, ℤ, pos, negsuc, get_or}
use Prim.Native.String.{String}
use Rattle.std.specs.Int.Signed.{le_z}
use Rattle.paper.specs.Setup.{Grid, grid_fits}
use Rattle.words.specs.Digits.{bytes}
use Rattle.words.specs.Numbers.{Word, good, bad, number}
use Rattle.grids.specs.Measures.{is_measure, measured}

-- corner and cell size are texts
pub record Header : Type 0 where
  pub grid : Grid
  pub x_corner : List ℕ
  pub y_corner : List ℕ
  pub cell_size : List ℕ
  pub no_data : ℤ

-- empty: a grid has at least a column
abbrev pub no_header : Header
no_header = record { grid = record { width = 0; height = 0 }; x_corner = []; y_corner = []; cell_size = []; no_data = pos 0 }

-- a whole number of at most nine digits
unfoldable pub whole_fits : ℤ → Bool
whole_fits z = le_z (negsuc 999999998) z && le_z z (pos 999999999)

-- what a word means as a whole number; below all of nine digits, where it is none
abbrev pub no_number : ℤ
no_number = negsuc 999999999

unfoldable pub whole_of : Word → ℤ
whole_of (good z) = z
whole_of bad = no_number

-- columns or rows: none, where the word is no number or one below zero
unfoldable pub size_of : Word → ℕ
size_of (good (pos n)) = n
size_of (good (negsuc m)) = 0
size_of bad = 0

-- the header's limits: the size is document 01's
unfoldable pub header_fits : Header → Bool
header_fits h =
    grid_fits h.grid
    && is_measure h.x_corner
    && is_measure h.y_corner
    && is_measure h.cell_size
    && whole_fits h.no_data

-- letters in either case: 65 to 90 are A to Z, and the small ones stand 32 further on
unfoldable pub lower : ℕ → ℕ
lower b = cond (leb 65 b && leb b 90) (b + 32) b

unfoldable pub lowered : List ℕ → List ℕ
lowered [] = []
lowered (b ∷ bs) = lower b ∷ lowered bs

unfoldable pub same : List ℕ → List ℕ → Bool
same [] [] = true
same [] (y ∷ ys) = false
same (x ∷ xs) [] = false
same (x ∷ xs) (y ∷ ys) = eqb x y && same xs ys

unfoldable pub is_name : String → List ℕ → Bool
is_name name w = same (lowered w) (bytes name)

-- a text's word by its number, counted from 0; a word that is not there is empty, and neither a name nor a value
abbrev pub word_at : List (List ℕ) → ℕ → List ℕ
word_at ws k = get_or ws k []

abbrev pub header_words : ℕ
header_words = 12

unfoldable pub named : List (List ℕ) → Bool
named ws =
    is_name "ncols" (word_at ws 0)
    && is_name "nrows" (word_at ws 2)
    && is_name "xllcorner" (word_at ws 4)
    && is_name "yllcorner" (word_at ws 6)
    && is_name "cellsize" (word_at ws 8)
    && is_name "nodata_value" (word_at ws 10)

unfoldable pub values_in : List (List ℕ) → Header
values_in ws =
    record {
      grid = record { width = size_of (number (word_at ws 1)); height = size_of (number (word_at ws 3)) };
      x_corner = measured (word_at ws 5);
      y_corner = measured (word_at ws 7);
      cell_size = measured (word_at ws 9);
      no_data = whole_of (number (word_at ws 11));
    }

unfoldable pub header_of : List (List ℕ) → Header
header_of ws = cond (named ws) (values_in ws) no_header
