-- The words of the text, which are what `balance` reads of it.
use Rattle.std.specs.Prelude.{List, [], ◌∷◌, ◌++◌, ℕ, zero, suc, ℤ, pos, get_or}
use Rattle.paper.specs.Setup.{cells_of}
use Rattle.words.specs.Digits.{digits, written}
use Rattle.words.specs.Words.{words}
use Rattle.grids.specs.Reading.{header_read}
use Rattle.desk.specs.Texts.{Cells, Files, cells_in}

-- a cell's number in one of the grids
abbrev pub word_in : List ℤ → ℕ → List ℕ
word_in cells i = written (get_or cells i (pos 0))

-- the words of the first cells, so many
unfoldable pub cell_words : Cells → ℕ → List (List ℕ)
cell_words c zero = []
cell_words c (suc i) = cell_words c i ++ word_in c.direction i ∷ word_in c.cover i ∷ word_in c.group i ∷ word_in c.water i ∷ []

-- columns and rows, the cover file's, the cells' in turn, and the weather file's
unfoldable pub text_words : Files → List (List ℕ)
text_words f =
    let grid = (header_read f.direction).grid in
    digits grid.width ∷ digits grid.height ∷ (words f.covers ++ (cell_words (cells_in f) (cells_of grid) ++ words f.weather))
