-- The text's words are those of its parts: a blank stands after each number and after the cover file, and a number as it is written is one word.
use mathlib.Core.List.{List, ◌∷◌, ◌++◌, append_assoc}
use mathlib.Core.Path.{◌≡◌, refl, sym}
use Prim.Native.Nat.{ℕ, zero, suc}
use lib.IntN.{ℤ}
use Rattle.paper.specs.Setup.{cells_of}
use Rattle.words.specs.Digits.{digits, written}
use Rattle.words.specs.Words.{is_blank, words}
use Rattle.words.proofs.SolidLaws.{words_blank, words_first, digits_word, written_word}
use Rattle.grids.specs.Reading.{header_read}
use Rattle.desk.specs.Texts.{Files, Cells, line_of, cell_line, cell_lines, setup_text, cells_in, text_of}
use Rattle.desk.specs.TextWords.{cell_words, text_words}

line_words :
    (d c g w : ℤ) (rest : List ℕ) → words (line_of d c g w ++ rest) ≡ written d ∷ written c ∷ written g ∷ written w ∷ words rest
unfolding line_of is_blank
line_words d c g w rest =
    simp append_assoc
    (rw (
      words_first (written d) 32 _ refl (written_word d),
      words_first (written c) 32 _ refl (written_word c),
      words_first (written g) 32 _ refl (written_word g),
      words_first (written w) 10 rest refl (written_word w),
    )
    refl)

lines_words : (cells : Cells) (n : ℕ) (rest : List ℕ) → words (cell_lines cells n ++ rest) ≡ cell_words cells n ++ words rest
unfolding cell_lines cell_line cell_words
lines_words cells zero rest = refl
lines_words cells (suc n) rest =
    rw (append_assoc (cell_lines cells n) (cell_line cells n) rest, lines_words cells n (cell_line cells n ++ rest), line_words _ _ _ _ rest)
    (sym (append_assoc (cell_words cells n) _ (words rest)))

pub text_words_lem : (f : Files) → words (text_of f) ≡ text_words f
unfolding text_of setup_text text_words is_blank
text_words_lem f =
    let grid = (header_read f.direction).grid in
    rw (
      words_first (digits grid.width) 32 _ refl (digits_word grid.width),
      words_first (digits grid.height) 10 _ refl (digits_word grid.height),
      words_blank f.covers 10 (cell_lines (cells_in f) (cells_of grid) ++ f.weather) refl,
      lines_words (cells_in f) (cells_of grid) f.weather,
    )
    refl
