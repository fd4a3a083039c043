-- Grids as C hands them over and gets them: what the calls return, and what they write.
use Rattle.std.specs.Prelude.{List, [], ◌∷◌, ◌≡◌, ℕ, min, ℤ, length, get_or, replicate, Result, Ok, Err}
use Rattle.std.proofs.lemmas.List.Edits.{sets}
use Rattle.grids.specs.Measures.{most_characters}
use Rattle.grids.specs.Headers.{Header, no_header}
use Rattle.grids.specs.Judging.{Verdict, grid_number, grid_place, on_accepted}
use Rattle.grids.specs.Reading.{header_read, cells_read, read_verdict}
use Rattle.grids.specs.Given.{text_as}
use Rattle.grids.specs.declared.headers.Header as code
use Rattle.grids.specs.declared.judging.BadGrid.{BadGrid}
use Rattle.clib.specs.Numbers.{numbered}

-- a place that 32 bits do not hold is told as the last that they do
unfoldable pub grid_returned : Verdict → ℕ
grid_returned v = numbered (grid_number v) (min (grid_place v) 4294967295)

-- a header: columns, rows and the lengths of the three texts; the no-data number; and the texts, each with zeros after it
pub record Lent : Type 0 where
  pub numbers : List ℕ
  pub no_data : ℤ
  pub x_corner : List ℕ
  pub y_corner : List ℕ
  pub cell_size : List ℕ

abbrev pub lent : List ℕ → ℤ → List ℕ → List ℕ → List ℕ → Lent
lent numbers no_data x_corner y_corner cell_size = record { numbers = numbers; no_data = no_data; x_corner = x_corner; y_corner = y_corner; cell_size = cell_size }

unfoldable pub padded : List ℕ → List ℕ
padded text = sets (replicate most_characters 0) 0 text

unfoldable pub header_lent : Header → Lent
header_lent h =
    lent (h.grid.width ∷ h.grid.height ∷ length h.x_corner ∷ length h.y_corner ∷ length h.cell_size ∷ []) h.no_data (padded h.x_corner)
    (padded h.y_corner) (padded h.cell_size)

-- as the code writes a header of its own
unfoldable pub header_kept : code.Header → Lent
header_kept h =
    lent (h.grid.width ∷ h.grid.height ∷ min h.x_corner.count 21 ∷ min h.y_corner.count 21 ∷ min h.cell_size.count 21 ∷ []) h.no_data
    h.x_corner.bytes h.y_corner.bytes h.cell_size.bytes

-- and back: a length past the bytes is no text's
unfoldable pub header_from : List ℕ → ℤ → List ℕ → List ℕ → List ℕ → Header
header_from numbers no_data x_corner y_corner cell_size =
    record {
      grid = record { width = get_or numbers 0 0; height = get_or numbers 1 0 };
      x_corner = text_as (record { bytes = x_corner; count = get_or numbers 2 0 });
      y_corner = text_as (record { bytes = y_corner; count = get_or numbers 3 0 });
      cell_size = text_as (record { bytes = cell_size; count = get_or numbers 4 0 });
      no_data = no_data;
    }

pub record GridRead (text : List ℕ) (before after : List ℤ) (numbers : List ℕ) (no_data : ℤ) (x_corner y_corner cell_size : List ℕ) (r : ℕ) : Type 0 where
  pub returned : r ≡ grid_returned (read_verdict text (length before))
  pub header : lent numbers no_data x_corner y_corner cell_size ≡ header_lent (on_accepted (read_verdict text (length before)) (header_read text) no_header)
  pub cells : after ≡ on_accepted (read_verdict text (length before)) (sets before 0 (cells_read text)) before

-- how many bytes a call to write tells
abbrev pub count_told : Result ℕ BadGrid → ℕ
count_told (Ok count) = count
count_told (Err why) = 0

pub record GridWritten (verdict : Verdict) (form before after : List ℕ) (count r : ℕ) : Type 0 where
  pub returned : r ≡ grid_returned verdict
  pub counted : count ≡ on_accepted verdict (length form) 0
  pub bytes : after ≡ on_accepted verdict (sets before 0 form) before
