-- What was read of the four grids is what their files say: of a refused grid the refusal, of an accepted one the header and the cells too. Where nothing is
-- wrong, each has as many cells as the first, so that the lines of the cells read are those of the files' cells.
use mathlib.Core.Bool.{◌&&◌}
use mathlib.Core.List.{List}
use mathlib.Core.Path.{◌≡◌, refl, ap, ◌∙◌}
use Prim.Native.Nat.{ℕ, zero, suc, ◌+◌, ◌≤◌, ◌<◌}
use native.Mathlib.Omega.{arith}
use lib.Dec.{eqb, leb}
use lib.IntN.{ℤ, pos}
use lib.ListN.{length, get_or, drop, get_or-append}
use lib.Seq.{sets, sets-eq}
use borrow.Author.Tests.{eqb-true}
use Rattle.theory.proofs.Cases.{and_left, and_right}
use Rattle.paper.specs.Limits.{most_cells}
use Rattle.paper.specs.Setup.{Grid, cells_of}
use Rattle.words.specs.Words.{words}
use Rattle.records.specs.Grids.{grid_as}
use Rattle.grids.specs.Headers.{Header}
use Rattle.grids.specs.Cells.{cell_fits, passing}
use Rattle.grids.specs.Judging.{Verdict, accepted, refused, on_accepted}
use Rattle.grids.specs.Reading.{header_read, cells_read, read_verdict}
use Rattle.grids.specs.Given.{verdict_as, answer_in, Reads}
use Rattle.grids.specs.declared.headers.Header as code
use Rattle.grids.specs.declared.judging.BadGrid.{BadGrid}
use Rattle.std.specs.Prelude.{Result, Ok, Err}
use Rattle.grids.proofs.AcceptedLaws.{Fit, fit, header_fit}
use Rattle.grids.proofs.AnswerLaws.{header_back, reads_verdict}
use Rattle.desk.specs.declared.faults.GridFile.TheVariants.{Direction, Cover, Group, Water}
use Rattle.desk.specs.declared.faults.Fault.{Fault}
use Rattle.desk.specs.declared.faults.Fault.TheVariants.{Size}
use Rattle.desk.specs.declared.faults.GridFile.{GridFile}
use Rattle.desk.specs.Faults.{Tested, ◌then◌}
use Rattle.desk.specs.Sheets.{Sheet, sheet_of, header_told, sheet_as, test_read, test_match, test_grids}
use Rattle.desk.specs.Texts.{Files, Cells, cells_by, cell_line, cell_lines, setup_text, cells_in, text_of}
use Rattle.desk.proofs.FaultLaws.{by_test, passed_before, passed_after, fits_unless}

-- ---- a list that was laid over the front of another
over_front : {A : Type 0} (xs l : List A) (d : A) (i : ℕ) → length xs ≤ length l → i < length xs → get_or (sets l 0 xs) i d ≡ get_or xs i d
over_front xs l d i room h = rw (sets-eq xs l 0 (omega arith)) (get_or-append xs (drop (0 + length xs) l) d i h)

-- ---- an accepted grid
abbrev Accepted : List ℕ → Type 0
Accepted text = read_verdict text most_cells ≡ accepted

module _ (text : List ℕ) (yes : Accepted text) where
  fits : Fit (header_read text) (passing (cell_fits (header_read text).no_data) (cells_read text)) (length (cells_read text)) (leb (length (cells_read text)) most_cells)
  unfolding read_verdict
  fits = fit (header_read text) (passing (cell_fits (header_read text).no_data) (cells_read text)) (length (cells_read text)) (leb (length (cells_read text)) most_cells) yes

  few_cells : cells_of (header_read text).grid ≤ most_cells
  unfolding cells_of
  few_cells = (header_fit (header_read text) fits.header).size

-- ---- what a call to read hands back
module _ {text : List ℕ} {before after : List ℤ} {r : Result code.Header BadGrid} (room : length before ≡ most_cells) (read : Reads text before after r) where
  verdict_read : verdict_as r ≡ read_verdict text most_cells
  verdict_read = rw room at (reads_verdict read)

  module _ (yes : Accepted text) where
    sheet_read : sheet_as r ≡ sheet_of text
    unfolding answer_in
    sheet_read =
        let is = rw (room, yes) at read.answer in
        rw (is, yes, header_back (words text)) refl

    cell_read : (i : ℕ) → i < cells_of (header_read text).grid → get_or after i (pos 0) ≡ get_or (cells_read text) i (pos 0)
    unfolding on_accepted
    cell_read i h =
        let all = rw (room, yes) at read.cells in
        rw all (over_front (cells_read text) before (pos 0) i (omega (arith, room, (fits text yes).counted, few_cells text yes)) (omega (arith, (fits text yes).counted)))

-- ---- grids in which nothing is wrong
none_refused : (file : GridFile) (v : Verdict) → test_read file v ≡ Ok tt → v ≡ accepted
unfolding test_read
none_refused file accepted e = refl
none_refused file (refused place) e = absurd (let o : ◌≡◌ {A = ℕ} 0 1 = cc in omega arith)

same_size : (file : GridFile) (h first : Header) → test_match file h first ≡ Ok tt → cells_of h.grid ≡ cells_of first.grid
unfolding test_match cells_of
same_size file h first e =
    let columns = eqb h.grid.width first.grid.width in
    let rows = eqb h.grid.height first.grid.height in
    let size = fits_unless (columns && rows) (Size file) (passed_before _ _ (passed_before _ _ e)) in
    rw (
      eqb-true h.grid.width first.grid.width (and_left columns rows size),
      eqb-true h.grid.height first.grid.height (and_right columns rows size),
    )
    refl

lines_same : (a b : Cells) (n : ℕ) → ((i : ℕ) → i < n → cell_line a i ≡ cell_line b i) → cell_lines a n ≡ cell_lines b n
unfolding cell_lines
lines_same a b zero e = refl
lines_same a b (suc n) e = rw (lines_same a b n (λ i h. e i (omega arith)), e n (omega arith)) refl

-- ---- the four grids, read one after another
abbrev pub grids_tested : Files → Tested
grids_tested f = test_grids (sheet_of f.direction) (sheet_of f.cover) (sheet_of f.group) (sheet_of f.water)

pub record Got (f : Files) (d c g w : List ℤ) (direction cover group water : Result code.Header BadGrid) : Type 0 where
  pub before : List ℤ
  pub room : length before ≡ most_cells
  pub directions : Reads f.direction before d direction
  pub covers : Reads f.cover before c cover
  pub groups : Reads f.group before g group
  pub waters : Reads f.water before w water

module _ {f : Files} {d c g w : List ℤ} {direction cover group water : Result code.Header BadGrid} (got : Got f d c g w direction cover group water) where
  abbrev refusals : Tested
  refusals =
      test_read Direction (read_verdict f.direction most_cells)
      then test_read Cover (read_verdict f.cover most_cells)
      then test_read Group (read_verdict f.group most_cells)
      then test_read Water (read_verdict f.water most_cells)

  record Taken : Type 0 where
    first : Accepted f.direction
    second : Accepted f.cover
    third : Accepted f.group
    fourth : Accepted f.water

  taken : refusals ≡ Ok tt → Taken
  taken e =
      record {
        first = none_refused Direction _ (passed_before _ _ (passed_before _ _ (passed_before _ _ e)));
        second = none_refused Cover _ (passed_after _ _ (passed_before _ _ (passed_before _ _ e)));
        third = none_refused Group _ (passed_after _ _ (passed_before _ _ e));
        fourth = none_refused Water _ (passed_after _ _ e);
      }

  -- a header counts only where no grid is refused
  abbrev Same : Type 0
  Same = test_grids (sheet_as direction) (sheet_as cover) (sheet_as group) (sheet_as water) ≡ grids_tested f

  same_taken : Taken → Same
  same_taken t =
      rw (
        sheet_read got.room got.directions t.first,
        sheet_read got.room got.covers t.second,
        sheet_read got.room got.groups t.third,
        sheet_read got.room got.waters t.fourth,
      )
      refl

  same_refused : (fault : Fault) → refusals ≡ Err fault → Same
  unfolding test_grids ◌then◌
  same_refused fault e =
      rw (
        verdict_read got.room got.directions,
        verdict_read got.room got.covers,
        verdict_read got.room got.groups,
        verdict_read got.room got.waters,
        e,
      )
      refl

  pub tested_read : Same
  tested_read = by_test refusals (λ e. same_taken (taken e)) same_refused

  module _ (none : grids_tested f ≡ Ok tt) where
    all_taken : Taken
    unfolding test_grids
    all_taken = taken (passed_before _ _ (passed_before _ _ (passed_before _ _ none)))

    abbrev cells : ℕ
    cells = cells_of (header_read f.direction).grid

    cover_cells : cells_of (header_read f.cover).grid ≡ cells
    unfolding test_grids
    cover_cells = same_size Cover _ _ (passed_after _ _ (passed_before _ _ (passed_before _ _ none)))

    group_cells : cells_of (header_read f.group).grid ≡ cells
    unfolding test_grids
    group_cells = same_size Group _ _ (passed_after _ _ (passed_before _ _ none))

    water_cells : cells_of (header_read f.water).grid ≡ cells
    unfolding test_grids
    water_cells = same_size Water _ _ (passed_after _ _ none)

    grid_read : grid_as (header_told direction).grid ≡ (header_read f.direction).grid
    grid_read = ap (λ (s : Sheet). s.header.grid) (sheet_read got.room got.directions all_taken.first)

    pub few_read : (h : code.Header) → h ≡ header_told direction → cells_of (grid_as h.grid) ≤ most_cells
    few_read h is = rw (is, grid_read) (few_cells f.direction all_taken.first)

    line_read : (i : ℕ) → i < cells → cell_line (cells_by d c g w) i ≡ cell_line (cells_in f) i
    unfolding cell_line
    line_read i h =
        rw (
          cell_read got.room got.directions all_taken.first i h,
          cell_read got.room got.covers all_taken.second i (omega (arith, cover_cells)),
          cell_read got.room got.groups all_taken.third i (omega (arith, group_cells)),
          cell_read got.room got.waters all_taken.fourth i (omega (arith, water_cells)),
        )
        refl

    pub text_read : (h : code.Header) → h ≡ header_told direction → setup_text (grid_as h.grid) f.covers (cells_by d c g w) f.weather ≡ text_of f
    unfolding setup_text text_of
    text_read h is =
        ap (λ (grid : Grid). setup_text grid f.covers (cells_by d c g w) f.weather) (ap (λ (told : code.Header). grid_as told.grid) is ∙ grid_read)
        ∙ rw (lines_same (cells_by d c g w) (cells_in f) cells line_read) refl
