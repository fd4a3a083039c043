-- The code's header as the paper's, and back: a text is the bytes before its count, and zeros stand after them.
use Rattle.std.specs.Prelude.{cond, List, [], Result, Ok, Err, ◌≡◌, ℕ, ltb, ℤ, length, get_or, replicate}
use Rattle.std.proofs.lemmas.List.Edits.{sets}
use Rattle.theory.specs.Lists.{made}
use Rattle.records.specs.Grids.{grid_as}
use Rattle.grids.specs.Headers as paper
use Rattle.grids.specs.Judging as judging
use Rattle.grids.specs.Measures.{most_characters}
use Rattle.grids.specs.Reading.{header_read, cells_read, read_verdict}
use Rattle.grids.specs.declared.measures.Measure.{Measure}
use Rattle.grids.specs.declared.headers.Header.{Header}
use Rattle.grids.specs.declared.judging.BadGrid.{BadGrid}

-- a count past the bytes is no text's
unfoldable pub text_as : Measure → List ℕ
text_as m = cond (ltb most_characters m.count) [] (made m.count (λ i. get_or m.bytes i 0))

abbrev pub header_as : Header → paper.Header
header_as h =
    record {
      grid = grid_as h.grid;
      x_corner = text_as h.x_corner;
      y_corner = text_as h.y_corner;
      cell_size = text_as h.cell_size;
      no_data = h.no_data;
    }

unfoldable pub measure_in : List ℕ → Measure
measure_in text = record { bytes = sets (replicate most_characters 0) 0 text; count = length text }

abbrev pub header_in : paper.Header → Header
header_in h =
    record {
      grid = record { width = h.grid.width; height = h.grid.height };
      x_corner = measure_in h.x_corner;
      y_corner = measure_in h.y_corner;
      cell_size = measure_in h.cell_size;
      no_data = h.no_data;
    }

-- what a call answers: what it gives where the grid is accepted, else the refusal's place
abbrev pub verdict_as : {T : Type 0} → Result T BadGrid → judging.Verdict
verdict_as (Ok x) = judging.accepted
verdict_as (Err bad) = judging.refused bad.0

unfoldable pub answer_in : {T : Type 0} → judging.Verdict → T → Result T BadGrid
answer_in judging.accepted x = Ok x
answer_in (judging.refused place) x = Err (record { 0 = place })

-- what a call to read answers, and the lent cells after it: those of the grid at their front, or all as they were
pub record Reads (text : List ℕ) (before after : List ℤ) (r : Result Header BadGrid) : Type 0 where
  pub answer : r ≡ answer_in (read_verdict text (length before)) (header_in (header_read text))
  pub cells : after ≡ judging.on_accepted (read_verdict text (length before)) (sets before 0 (cells_read text)) before

-- what a call to write answers, and the lent bytes after it: the form at their front, or all as they were
pub record Writes (verdict : judging.Verdict) (form before after : List ℕ) (r : Result ℕ BadGrid) : Type 0 where
  pub answer : r ≡ answer_in verdict (length form)
  pub bytes : after ≡ judging.on_accepted verdict (sets before 0 form) before
