-- A grid out of a text: its header and its cells, and whether a buffer for so many cells takes them.
use Rattle.std.specs.Prelude.{List, ℕ, leb, ℤ, length}
use Rattle.words.specs.Words.{words}
use Rattle.grids.specs.Headers.{Header, header_of}
use Rattle.grids.specs.Cells.{cells_in, cell_fits, passing}
use Rattle.grids.specs.Judging.{Verdict, judged}

abbrev pub header_read : List ℕ → Header
header_read text = header_of (words text)

abbrev pub cells_read : List ℕ → List ℤ
cells_read text = cells_in (words text)

unfoldable pub read_verdict : List ℕ → ℕ → Verdict
read_verdict text room =
    judged (header_read text) (passing (cell_fits (header_read text).no_data) (cells_read text)) (length (cells_read text)) (leb (length (cells_read text)) room)
