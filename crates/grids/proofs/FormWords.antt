-- The words of the one written form, of whole numbers and of any cells whose texts are words: the header's six names with their values, and the cells'. For
-- each text is one word, and a blank stands after it.
use mathlib.Core.Bool.{true}
use mathlib.Core.List.{List, [], ◌∷◌, ◌++◌, map, append_assoc}
use mathlib.Core.Path.{◌≡◌, refl, ap, ◌∙◌}
use Prim.Native.Nat.{ℕ, suc}
use lib.Dec.{eqb}
use lib.IntN.{ℤ}
use lib.Seq.{append_snoc}
use Rattle.theory.proofs.Cases.{by_cases}
use Rattle.words.specs.Words.{is_blank, longer, pieces, kept, words}
use Rattle.words.specs.Digits.{digits, written, bytes}
use Rattle.words.proofs.SolidLaws.{words_first, figures_word, digits_word, written_word}
use Rattle.grids.specs.Measures.{is_measure}
use Rattle.grids.specs.Headers.{Header, header_fits}
use Rattle.grids.specs.Forms.{name_line, header_form, blank_after, done_after, rows, grid_form, whole_form}
use Rattle.grids.proofs.MeasureForm.{measure_figures}
use Rattle.grids.proofs.AcceptedLaws.{header_fit}

abbrev pub words_of : {A : Type 0} → (A → List ℕ) → Header → List A → List (List ℕ)
words_of form h xs =
    bytes "ncols" ∷ digits h.grid.width
    ∷ bytes "nrows" ∷ digits h.grid.height
    ∷ bytes "xllcorner" ∷ h.x_corner
    ∷ bytes "yllcorner" ∷ h.y_corner
    ∷ bytes "cellsize" ∷ h.cell_size
    ∷ bytes "nodata_value" ∷ written h.no_data
    ∷ map form xs

blank_after_lem : (columns done : ℕ) → is_blank (blank_after columns done) ≡ true
unfolding blank_after is_blank
blank_after_lem columns done = by_cases (eqb done columns) (λ e. rw e refl) (λ e. rw e refl)

rows_words :
    {A : Type 0} (form : A → List ℕ) (columns done : ℕ) (xs : List A) → ((x : A) → words (form x) ≡ form x ∷ [])
    → words (rows form columns done xs) ≡ map form xs
unfolding rows words pieces kept
rows_words form columns done [] each = refl
rows_words form columns done (x ∷ xs) each =
    let after = rows form columns (done_after columns (suc done)) xs in
    words_first (form x) (blank_after columns (suc done)) after (blank_after_lem columns (suc done)) (each x)
    ∙ ap (λ (ws : List (List ℕ)). form x ∷ ws) (rows_words form columns (done_after columns (suc done)) xs each)

line_words :
    (name value : List ℕ) → words name ≡ name ∷ [] → words value ≡ value ∷ [] → (rest : List ℕ)
    → words (name_line name value ++ rest) ≡ name ∷ value ∷ words rest
unfolding name_line is_blank
line_words name value n v rest =
    ap words (append_assoc name (32 ∷ (value ++ 10 ∷ [])) rest)
    ∙ words_first name 32 ((value ++ 10 ∷ []) ++ rest) refl n
    ∙ ap (λ (l : List ℕ). name ∷ words l) (append_snoc value 10 rest)
    ∙ ap (λ (ws : List (List ℕ)). name ∷ ws) (words_first value 10 rest refl v)

measure_word : (w : List ℕ) → is_measure w ≡ true → words w ≡ w ∷ []
measure_word w e = figures_word (measure_figures w e)

pub form_words :
    {A : Type 0} (form : A → List ℕ) (h : Header) (xs : List A) → ((x : A) → words (form x) ≡ form x ∷ []) → header_fits h ≡ true
    → words (grid_form form h xs) ≡ words_of form h xs
unfolding grid_form header_form words pieces kept longer is_blank bytes
form_words form h xs each e =
    let f = header_fit h e in
    simp append_assoc
    (rw (
      line_words (bytes "ncols") (digits h.grid.width) refl (digits_word h.grid.width),
      line_words (bytes "nrows") (digits h.grid.height) refl (digits_word h.grid.height),
      line_words (bytes "xllcorner") h.x_corner refl (measure_word h.x_corner f.x),
      line_words (bytes "yllcorner") h.y_corner refl (measure_word h.y_corner f.y),
      line_words (bytes "cellsize") h.cell_size refl (measure_word h.cell_size f.cell),
      line_words (bytes "nodata_value") (written h.no_data) refl (written_word h.no_data),
      rows_words form h.grid.width 0 xs each,
    )
    refl)

pub whole_words : (h : Header) (cells : List ℤ) → header_fits h ≡ true → words (whole_form h cells) ≡ words_of written h cells
whole_words h cells e = form_words written h cells written_word e
