-- The desk's six files, and the text of them: columns and rows, the cover file, a line for each cell, and the weather file. 32 is a space, 10 a line feed.
use Rattle.std.specs.Prelude.{List, [], ◌∷◌, ◌++◌, ℕ, zero, suc, ℤ, pos, get_or}
use Rattle.paper.specs.Setup.{Grid, cells_of}
use Rattle.words.specs.Digits.{digits, written}
use Rattle.grids.specs.Reading.{header_read, cells_read}
use Rattle.desk.specs.declared.texts.Cells as lent

pub record Files : Type 0 where
  pub direction : List ℕ
  pub cover : List ℕ
  pub group : List ℕ
  pub water : List ℕ
  pub covers : List ℕ
  pub weather : List ℕ

abbrev pub files_by : List ℕ → List ℕ → List ℕ → List ℕ → List ℕ → List ℕ → Files
files_by direction cover group water covers weather =
    record { direction = direction; cover = cover; group = group; water = water; covers = covers; weather = weather }

-- the cells of the four grids
pub record Cells : Type 0 where
  pub direction : List ℤ
  pub cover : List ℤ
  pub group : List ℤ
  pub water : List ℤ

abbrev pub cells_by : List ℤ → List ℤ → List ℤ → List ℤ → Cells
cells_by direction cover group water = record { direction = direction; cover = cover; group = group; water = water }

-- as the code lends them
abbrev pub cells_as : lent.Cells → Cells
cells_as c = cells_by c.direction.now c.cover.now c.group.now c.water.now

-- a cell's four numbers, parted by single spaces
unfoldable pub line_of : ℤ → ℤ → ℤ → ℤ → List ℕ
line_of direction cover group water = written direction ++ 32 ∷ (written cover ++ 32 ∷ (written group ++ 32 ∷ (written water ++ 10 ∷ [])))

unfoldable pub cell_line : Cells → ℕ → List ℕ
cell_line c i = line_of (get_or c.direction i (pos 0)) (get_or c.cover i (pos 0)) (get_or c.group i (pos 0)) (get_or c.water i (pos 0))

-- the lines of the first cells, so many
unfoldable pub cell_lines : Cells → ℕ → List ℕ
cell_lines c zero = []
cell_lines c (suc i) = cell_lines c i ++ cell_line c i

unfoldable pub setup_text : Grid → List ℕ → Cells → List ℕ → List ℕ
setup_text grid covers cells weather =
    digits grid.width ++ 32 ∷ (digits grid.height ++ 10 ∷ (covers ++ 10 ∷ (cell_lines cells (cells_of grid) ++ weather)))

abbrev pub cells_in : Files → Cells
cells_in f = cells_by (cells_read f.direction) (cells_read f.cover) (cells_read f.group) (cells_read f.water)

unfoldable pub text_of : Files → List ℕ
text_of f = setup_text (header_read f.direction).grid f.covers (cells_in f) f.weather
