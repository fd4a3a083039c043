-- Grids for C: what is returned holds the refusal's number and place, and what a call to read hands back is the header's numbers and texts.
use mathlib.Core.List.{List, [], ◌∷◌}
use mathlib.Core.Path.{◌≡◌, refl, ap, ◌∙◌}
use Prim.Native.Nat.{ℕ, ◌≤◌, ◌<◌, min}
use native.Mathlib.Omega.{arith}
use lib.IntN.{ℤ}
use lib.ListN.{length}
use Rattle.grids.specs.Headers.{Header, no_header}
use Rattle.grids.specs.Judging.{Verdict, accepted, refused, grid_number, grid_place, on_accepted}
use Rattle.grids.specs.Reading.{header_read, read_verdict}
use Rattle.grids.specs.Given.{measure_in, header_in, verdict_as, answer_in, Reads, Writes}
use Rattle.grids.specs.declared.headers.Header as code
use Rattle.grids.specs.declared.judging.BadGrid.{BadGrid}
use Rattle.std.specs.Prelude.{Result, Ok, Err}
use Rattle.grids.proofs.AnswerLaws.{Short, answered_short}
use Rattle.clib.specs.Grids.{grid_returned, lent, padded, header_lent, header_kept, count_told, GridRead, GridWritten}

-- a header's numbers and texts, as they are lent
header_lent_lem : (h : Header) (c : code.Header) → Short h → c ≡ header_in h → header_kept c ≡ header_lent h
unfolding header_kept header_lent padded measure_in
header_lent_lem h c short e =
    let xs : min c.x_corner.count 21 ≡ length h.x_corner = rw e (omega (arith, short.x)) in
    let ys : min c.y_corner.count 21 ≡ length h.y_corner = rw e (omega (arith, short.y)) in
    let cells : min c.cell_size.count 21 ≡ length h.cell_size = rw e (omega (arith, short.cell)) in
    rw (xs, ys, cells, e) refl

-- what an answer says of its verdict, of the header and of the count
answered : {T : Type 0} (v : Verdict) (x : T) → verdict_as (answer_in v x) ≡ v
unfolding answer_in
answered accepted x = refl
answered (refused place) x = refl

abbrev pub header_told : Result code.Header BadGrid → code.Header
header_told (Ok h) = h
header_told (Err why) = header_in no_header

header_answered : (v : Verdict) (h : Header) → header_told (answer_in v (header_in h)) ≡ header_in (on_accepted v h no_header)
unfolding answer_in on_accepted
header_answered accepted h = refl
header_answered (refused place) h = refl

count_answered : (v : Verdict) (n : ℕ) → count_told (answer_in v n) ≡ on_accepted v n 0
unfolding answer_in on_accepted
count_answered accepted n = refl
count_answered (refused place) n = refl

module _ (text : List ℕ) (before after : List ℤ) (numbers : List ℕ) (no_data : ℤ) (x y cell : List ℕ) (r : ℕ) where
  pub grid_read :
      (a : Result code.Header BadGrid) → Reads text before after a → lent numbers no_data x y cell ≡ header_kept (header_told a)
      → r ≡ grid_returned (verdict_as a)
      → GridRead text before after numbers no_data x y cell r
  grid_read a reads kept er =
      let v = read_verdict text (length before) in
      record {
        returned = er ∙ ap grid_returned (ap verdict_as reads.answer ∙ answered v _);
        header =
            kept
            ∙ header_lent_lem _ (header_told a) (answered_short v text) (ap header_told reads.answer ∙ header_answered v (header_read text));
        cells = reads.cells;
      }

  pub read_whole :
      (h : code.Header) → Reads text before after (Ok h) → lent numbers no_data x y cell ≡ header_kept h → r ≡ 0
      → GridRead text before after numbers no_data x y cell r
  unfolding grid_returned grid_number grid_place
  read_whole h reads kept er = grid_read (Ok h) reads kept er

  pub read_refused :
      (why : BadGrid) → Reads text before after (Err why) → lent numbers no_data x y cell ≡ header_kept (header_in no_header)
      → r ≡ grid_returned (refused why.0)
      → GridRead text before after numbers no_data x y cell r
  read_refused why reads kept er = grid_read (Err why) reads kept er

pub grid_written :
    (verdict : Verdict) (form before after : List ℕ) (a : Result ℕ BadGrid) (count r : ℕ) → Writes verdict form before after a → count ≡ count_told a
    → r ≡ grid_returned (verdict_as a)
    → GridWritten verdict form before after count r
grid_written verdict form before after a count r writes ec er =
    record {
      returned = er ∙ ap grid_returned (ap verdict_as writes.answer ∙ answered verdict _);
      counted = ec ∙ ap count_told writes.answer ∙ count_answered verdict _;
      bytes = writes.bytes;
    }
