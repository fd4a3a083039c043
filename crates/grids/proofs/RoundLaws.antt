-- Written and read back a grid is the same: each value is read from the word that it is written as. Read and written a text keeps its words but for the case
-- of letters: each is a name, or what its own value is written as. So two texts of the same grid have the same words but for that, and two texts with the
-- same words but for that are one grid, with one written form.
use mathlib.Core.Bool.{true, true≢false}
use mathlib.Core.List.{List, [], ◌∷◌, map}
use mathlib.Core.Path.{◌≡◌, refl, sym, ap, ◌∙◌}
use Prim.Native.Nat.{ℕ, suc, ◌≤◌, ◌<◌}
use Prim.Native.String.{String}
use native.Mathlib.Nat.{le_refl, not-suc-le-zero, mul-le-mul_left, mul-le-mul_right}
use native.Mathlib.Omega.{arith}
use lib.Dec.{eqb, leb}
use lib.IntN.{ℤ, pos, negsuc}
use lib.ListN.{length, drop, get_or-eq_default}
use lib.Seq.{drop-cons}
use borrow.Author.Tests.{le-leb, lt-leb, leb-true, eqb-true}
use Rattle.theory.proofs.Cases.{by_cases, below_or_not, and_left, and_right}
use Rattle.paper.specs.Limits.{most_cells}
use Rattle.paper.specs.Setup.{grid_fits}
use Rattle.words.specs.Words.{words}
use Rattle.words.specs.Digits.{digits, written, bytes}
use Rattle.words.specs.Numbers.{Word, good, bad, number}
use Rattle.words.proofs.NumberLaws.{NineDigits}
use Rattle.words.proofs.DigitLaws.{read_back, write_back}
use Rattle.words.proofs.SolidLaws.{Each, last, next, Figure, digits_figures, written_figures}
use Rattle.grids.specs.Measures.{is_unsigned, without_minus, is_measure, measured}
use Rattle.grids.specs.Headers.{
  Header,
  no_header,
  whole_fits,
  whole_of,
  size_of,
  header_fits,
  lower,
  lowered,
  same,
  is_name,
  word_at,
  header_words,
  named,
  values_in,
  header_of,
}
use Rattle.grids.specs.Cells.{wholes, cells_in, cell_fits, passing}
use Rattle.grids.specs.Judging.{accepted}
use Rattle.grids.specs.Forms.{whole_form, whole_verdict}
use Rattle.grids.specs.Reading.{header_read, cells_read, read_verdict}
use Rattle.grids.proofs.MeasureForm.{measure_figures}
use Rattle.grids.proofs.AcceptedLaws.{Fit, fit, with_room, all_of, each_of, header_fit, first_whole, rest_pass}
use Rattle.grids.proofs.FormWords.{words_of, whole_words}

-- ---- written and read back
nine_digits : (z : ℤ) → whole_fits z ≡ true → NineDigits z
unfolding whole_fits NineDigits
nine_digits (pos n) e = omega (arith, leb-true n 999999999 e)
nine_digits (negsuc m) e = omega (arith, leb-true m 999999998 (and_left (leb m 999999998) true e))

whole_read : (z : ℤ) → whole_fits z ≡ true → whole_of (number (written z)) ≡ z
unfolding whole_of
whole_read z e = rw (read_back z (nine_digits z e)) refl

size_read : (n : ℕ) → n ≤ most_cells → size_of (number (digits n)) ≡ n
unfolding size_of written NineDigits
size_read n h = rw (read_back (pos n) (omega arith)) refl

header_read_lem : (h : Header) (cells : List ℤ) → header_fits h ≡ true → header_of (words_of written h cells) ≡ h
unfolding header_of named values_in is_name same lowered lower bytes measured
header_read_lem h cells e =
    let f = header_fit h e in
    rw (
      size_read h.grid.width (omega (arith, f.size, mul-le-mul_left h.grid.width f.high)),
      size_read h.grid.height (omega (arith, f.size, mul-le-mul_right h.grid.height f.wide)),
      f.x,
      f.y,
      f.cell,
      whole_read h.no_data f.none,
    )
    refl

cells_read_lem : (no_data : ℤ) (cells : List ℤ) → length cells ≤ passing (cell_fits no_data) cells → wholes (map written cells) ≡ cells
unfolding wholes
cells_read_lem no_data [] all = refl
cells_read_lem no_data (z ∷ zs) all = rw (whole_read z (first_whole no_data z zs all), cells_read_lem no_data zs (rest_pass no_data z zs all)) refl

module _ (h : Header) (cells : List ℤ) (room : ℕ) (yes : whole_verdict h cells room ≡ accepted) where
  fits : Fit h (passing (cell_fits h.no_data) cells) (length cells) (leb (length (whole_form h cells)) room)
  unfolding whole_verdict
  fits = fit h (passing (cell_fits h.no_data) cells) (length cells) (leb (length (whole_form h cells)) room) yes

  pub header_read_back : header_read (whole_form h cells) ≡ h
  header_read_back = ap header_of (whole_words h cells fits.header) ∙ header_read_lem h cells fits.header

  pub cells_read_back : cells_read (whole_form h cells) ≡ cells
  unfolding cells_in
  cells_read_back = ap cells_in (whole_words h cells fits.header) ∙ cells_read_lem h.no_data cells fits.passed

  pub read_back_accepted : (places : ℕ) → length cells ≤ places → read_verdict (whole_form h cells) places ≡ accepted
  unfolding read_verdict whole_verdict
  read_back_accepted places some =
      rw (header_read_back, cells_read_back, le-leb (length cells) places some) (with_room h (passing (cell_fits h.no_data) cells) (length cells) (leb (length (whole_form h cells)) room) yes)

-- ---- read and written: a number or a measure has no capitals
lowered_figures : {w : List ℕ} → Each Figure w → lowered w ≡ w
unfolding lowered lower
lowered_figures (last {b} f) = rw (lt-leb 65 b (omega (arith, f.high))) refl
lowered_figures (next {b} f each) = rw (lt-leb 65 b (omega (arith, f.high)), lowered_figures each) refl

as_lowered : {v : List ℕ} (w : List ℕ) → Each Figure v → v ≡ w → v ≡ lowered w
as_lowered w each e = sym (lowered_figures each) ∙ ap lowered e

-- a value is written as the word that it was read from
size_back : (w : List ℕ) (m : Word) → number w ≡ m → 1 ≤ size_of m → digits (size_of m) ≡ w
unfolding size_of written
size_back w (good (pos n)) e some = write_back w (pos n) e
size_back w (good (negsuc m)) e some = absurd (not-suc-le-zero some)
size_back w bad e some = absurd (not-suc-le-zero some)

size_lowered : (w : List ℕ) → 1 ≤ size_of (number w) → digits (size_of (number w)) ≡ lowered w
size_lowered w some = as_lowered w (digits_figures (size_of (number w))) (size_back w (number w) refl some)

measure_back : (w : List ℕ) → is_measure (measured w) ≡ true → measured w ≡ w
unfolding measured is_measure without_minus is_unsigned
measure_back w e =
    by_cases (is_measure w) (λ is. rw is refl) (λ not. let none : is_measure [] ≡ true = rw not at e in absurd (true≢false (sym none)))

measure_lowered : (w : List ℕ) → is_measure (measured w) ≡ true → measured w ≡ lowered w
measure_lowered w e = as_lowered w (measure_figures (measured w) e) (measure_back w e)

whole_back : (w : List ℕ) (m : Word) → number w ≡ m → whole_fits (whole_of m) ≡ true → written (whole_of m) ≡ w
unfolding whole_of whole_fits
whole_back w (good z) e fits = write_back w z e
whole_back w bad e fits = absurd (true≢false (sym fits))

whole_lowered : (w : List ℕ) → whole_fits (whole_of (number w)) ≡ true → written (whole_of (number w)) ≡ lowered w
whole_lowered w e = as_lowered w (written_figures (whole_of (number w))) (whole_back w (number w) refl e)

cells_lowered : (no_data : ℤ) (ws : List (List ℕ)) → length (wholes ws) ≤ passing (cell_fits no_data) (wholes ws) → map written (wholes ws) ≡ map lowered ws
unfolding wholes
cells_lowered no_data [] all = refl
cells_lowered no_data (w ∷ ws) all =
    let z = whole_of (number w) in
    rw (whole_lowered w (first_whole no_data z (wholes ws) all), cells_lowered no_data ws (rest_pass no_data z (wholes ws) all)) refl

-- a name is its word in small letters
same_is : (xs ys : List ℕ) → same xs ys ≡ true → xs ≡ ys
unfolding same
same_is [] [] e = refl
same_is [] (y ∷ ys) e = absurd (true≢false (sym e))
same_is (x ∷ xs) [] e = absurd (true≢false (sym e))
same_is (x ∷ xs) (y ∷ ys) e =
    rw (eqb-true x y (and_left (eqb x y) (same xs ys) e), same_is xs ys (and_right (eqb x y) (same xs ys) e)) refl

module _ (ws : List (List ℕ)) where
  -- past the last word there is no number
  twelve : whole_fits (whole_of (number (word_at ws 11))) ≡ true → 11 < length ws
  unfolding number whole_of whole_fits
  twelve e =
      below_or_not 11 (length ws) (λ h. h)
      (λ h.
      let none : whole_fits (whole_of (number [])) ≡ true = rw (get_or-eq_default ws [] {n = 11} h) at e in
      absurd (true≢false (sym none)))

  -- a name and its value, and the words after them
  line_lowered :
      {rest : List (List ℕ)} (name : String) (value : List ℕ) (k : ℕ) → suc k < length ws → is_name name (word_at ws k) ≡ true
      → value ≡ lowered (word_at ws (suc k)) → rest ≡ map lowered (drop (suc (suc k)) ws)
      → bytes name ∷ value ∷ rest ≡ map lowered (drop k ws)
  unfolding is_name
  line_lowered name value k h n v r =
      rw (drop-cons ws k [] (omega arith), drop-cons ws (suc k) [] h, same_is (lowered (word_at ws k)) (bytes name) n, v, r) refl

  values_lowered :
      (cells : List ℤ) → header_fits (values_in ws) ≡ true → named ws ≡ true → map written cells ≡ map lowered (drop header_words ws)
      → words_of written (values_in ws) cells ≡ map lowered ws
  unfolding values_in named all_of
  values_lowered cells e n c =
      let h = values_in ws in
      let f = header_fit h e in
      let long = twelve f.none in
      let names =
      is_name "ncols" (word_at ws 0)
      ∷ is_name "nrows" (word_at ws 2)
      ∷ is_name "xllcorner" (word_at ws 4)
      ∷ is_name "yllcorner" (word_at ws 6)
      ∷ is_name "cellsize" (word_at ws 8)
      ∷ is_name "nodata_value" (word_at ws 10)
      ∷ [] in
      line_lowered "ncols" (digits h.grid.width) 0 (omega arith) (each_of true names 0 n) (size_lowered (word_at ws 1) f.wide)
      (line_lowered "nrows" (digits h.grid.height) 2 (omega arith) (each_of true names 1 n) (size_lowered (word_at ws 3) f.high)
      (line_lowered "xllcorner" h.x_corner 4 (omega arith) (each_of true names 2 n) (measure_lowered (word_at ws 5) f.x)
      (line_lowered "yllcorner" h.y_corner 6 (omega arith) (each_of true names 3 n) (measure_lowered (word_at ws 7) f.y)
      (line_lowered "cellsize" h.cell_size 8 (omega arith) (each_of true names 4 n) (measure_lowered (word_at ws 9) f.cell)
      (line_lowered "nodata_value" (written h.no_data) 10 long (each_of true names 5 n) (whole_lowered (word_at ws 11) f.none) c)))))

  all_named : header_fits (header_of ws) ≡ true → named ws ≡ true
  unfolding header_of header_fits grid_fits
  all_named e =
      by_cases (named ws) (λ n. n) (λ n. let none : header_fits no_header ≡ true = rw n at e in absurd (true≢false (sym none)))

  grid_lowered :
      (cells : List ℤ) → header_fits (header_of ws) ≡ true → map written cells ≡ map lowered (drop header_words ws)
      → words_of written (header_of ws) cells ≡ map lowered ws
  unfolding header_of
  grid_lowered cells e c = let n = all_named e in rw n (values_lowered cells (rw n at e) n c)

module _ (text : List ℕ) (room : ℕ) (yes : read_verdict text room ≡ accepted) where
  abbrev h : Header
  h = header_read text

  abbrev cells : List ℤ
  cells = cells_read text

  read_fits : Fit h (passing (cell_fits h.no_data) cells) (length cells) (leb (length cells) room)
  unfolding read_verdict
  read_fits = fit h (passing (cell_fits h.no_data) cells) (length cells) (leb (length cells) room) yes

  pub write_back_accepted : whole_verdict (header_read text) (cells_read text) (length (whole_form (header_read text) (cells_read text))) ≡ accepted
  unfolding read_verdict whole_verdict
  write_back_accepted =
      let long = length (whole_form h cells) in
      rw (le-leb long long (le_refl long)) (with_room h (passing (cell_fits h.no_data) cells) (length cells) (leb (length cells) room) yes)

  pub write_back_words : words (whole_form (header_read text) (cells_read text)) ≡ map lowered (words text)
  unfolding cells_in
  write_back_words =
      whole_words h cells read_fits.header
      ∙ grid_lowered (words text) cells read_fits.header (cells_lowered h.no_data (drop header_words (words text)) read_fits.passed)

  -- and the written form is read as the text is
  form_header : header_read (whole_form h cells) ≡ h
  form_header = header_read_back h cells (length (whole_form h cells)) write_back_accepted

  form_cells : cells_read (whole_form h cells) ≡ cells
  form_cells = cells_read_back h cells (length (whole_form h cells)) write_back_accepted

module _ (text₁ text₂ : List ℕ) (room₁ room₂ : ℕ) (one : read_verdict text₁ room₁ ≡ accepted) (two : read_verdict text₂ room₂ ≡ accepted) where
  pub same_words :
      header_read text₁ ≡ header_read text₂ → cells_read text₁ ≡ cells_read text₂ → map lowered (words text₁) ≡ map lowered (words text₂)
  same_words e c = sym (write_back_words text₁ room₁ one) ∙ (λ t. words (whole_form (e t) (c t))) ∙ write_back_words text₂ room₂ two

  module _ (e : map lowered (words text₁) ≡ map lowered (words text₂)) where
    forms : words (whole_form (header_read text₁) (cells_read text₁)) ≡ words (whole_form (header_read text₂) (cells_read text₂))
    forms = write_back_words text₁ room₁ one ∙ e ∙ sym (write_back_words text₂ room₂ two)

    pub same_header : header_read text₁ ≡ header_read text₂
    same_header = sym (form_header text₁ room₁ one) ∙ ap header_of forms ∙ form_header text₂ room₂ two

    pub same_cells : cells_read text₁ ≡ cells_read text₂
    same_cells = sym (form_cells text₁ room₁ one) ∙ ap cells_in forms ∙ form_cells text₂ room₂ two

    pub same_form : whole_form (header_read text₁) (cells_read text₁) ≡ whole_form (header_read text₂) (cells_read text₂)
    same_form = λ t. whole_form (same_header t) (same_cells t)
