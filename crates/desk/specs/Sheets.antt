-- What can be wrong with the four grids: direction, cover, group and water.
use Rattle.std.specs.Prelude.{◌&&◌, List, ℕ, eqb, Result, Ok, Err}
use Rattle.paper.specs.Limits.{most_cells}
use Rattle.grids.specs.Headers.{Header, no_header, same}
use Rattle.grids.specs.Judging.{Verdict, accepted, refused}
use Rattle.grids.specs.Reading.{header_read, read_verdict}
use Rattle.grids.specs.Given.{header_as, header_in, verdict_as}
use Rattle.grids.specs.declared.headers.Header as code
use Rattle.grids.specs.declared.judging.BadGrid.{BadGrid}
use Rattle.desk.specs.declared.faults.GridFile.{GridFile}
use Rattle.desk.specs.declared.faults.GridFile.TheVariants.{Direction, Cover, Group, Water}
use Rattle.desk.specs.declared.faults.Fault.TheVariants.{Refused, Size, Corner, CellSize}
use Rattle.desk.specs.Faults.{Tested, ◌then◌, unless}

-- what is read of a grid besides its cells, for which there is room
pub record Sheet : Type 0 where
  pub verdict : Verdict
  pub header : Header

abbrev pub sheet_of : List ℕ → Sheet
sheet_of text = record { verdict = read_verdict text most_cells; header = header_read text }

-- refusal 12
unfoldable pub test_read : GridFile → Verdict → Tested
test_read file accepted = Ok tt
test_read file (refused place) = Err (Refused file place)

-- another size than the first grid's, another corner, another cell size; corner and cell size are texts, and the no-data numbers may differ
unfoldable pub test_match : GridFile → Header → Header → Tested
test_match file h first =
    unless (eqb h.grid.width first.grid.width && eqb h.grid.height first.grid.height) (Size file)
    then unless (same h.x_corner first.x_corner && same h.y_corner first.y_corner) (Corner file)
    then unless (same h.cell_size first.cell_size) (CellSize file)

-- each is read, then each is compared
unfoldable pub test_grids : Sheet → Sheet → Sheet → Sheet → Tested
test_grids direction cover group water =
    test_read Direction direction.verdict
    then test_read Cover cover.verdict
    then test_read Group group.verdict
    then test_read Water water.verdict
    then test_match Cover cover.header direction.header
    then test_match Group group.header direction.header
    then test_match Water water.header direction.header

-- the header that a call to read tells, which is empty where the grid is refused
abbrev pub header_told : Result code.Header BadGrid → code.Header
header_told (Ok h) = h
header_told (Err bad) = header_in no_header

-- what the code reads of a grid as this
abbrev pub sheet_as : Result code.Header BadGrid → Sheet
sheet_as r = record { verdict = verdict_as r; header = header_as (header_told r) }
