-- What the calls answer. What is written into nothing changes nothing and tells where it would end, which is exact for as many cells as a grid has; so the
-- verdict is the paper's. An accepted grid is written or read whole, and of a refused one nothing is.
use mathlib.Core.Bool.{true}
use mathlib.Core.List.{List, [], ◌++◌}
use mathlib.Core.Path.{◌≡◌, refl, sym, ap, ◌∙◌}
use Prim.Native.Nat.{ℕ, ◌+◌, ◌*◌, ◌≤◌, ◌<◌}
use native.Mathlib.Omega.{arith}
use lib.Dec.{leb}
use lib.IntN.{ℤ}
use lib.ListN.{length, drop}
use lib.Seq.{sets}
use borrow.Author.Tests.{leb-true}
use Rattle.std.specs.Prelude.{Result, Ok, Err}
use Rattle.theory.proofs.Cases.{by_cases}
use Rattle.paper.specs.Setup.{cells_of}
use Rattle.words.specs.Words.{words}
use Rattle.words.specs.Writing.{farthest, Wrote}
use Rattle.words.proofs.WritingLaws.{sets_out}
use Rattle.grids.specs.Measures.{most_characters}
use Rattle.grids.specs.Headers.{Header, header_fits, no_header, word_at, named, values_in, header_of}
use Rattle.grids.specs.Spans.{WordAt}
use Rattle.grids.specs.Cells.{wholes, cells_in, cell_fits, passing}
use Rattle.grids.specs.Judging.{Verdict, accepted, refused, judged, on_accepted}
use Rattle.grids.specs.Forms.{most_header, most_depth}
use Rattle.grids.specs.Reading.{header_read, cells_read, read_verdict}
use Rattle.grids.specs.Given.{header_as, header_in, verdict_as, answer_in, Reads, Writes}
use Rattle.grids.specs.declared.headers.Header as code
use Rattle.grids.specs.declared.judging.BadGrid.{BadGrid}
use Rattle.grids.proofs.MeasureLaws.{text_back, measured_few}
use Rattle.grids.proofs.AcceptedLaws.{fit, same_room, header_fit}

-- written into nothing
pub into_nothing : {most end : ℕ} {form rest : List ℕ} → Wrote most 0 form [] rest end → rest ≡ []
into_nothing {form = form} w = w.put.buffer ∙ sets_out form [] 0 (omega arith)

few_bytes : (h : Header) (count long : ℕ) → header_fits h ≡ true → count ≡ cells_of h.grid → long ≤ most_header + most_depth * count → long < farthest
unfolding cells_of
few_bytes h count long good e short = omega (arith, (header_fit h good).size, e, short)

pub form_judged :
    {most end : ℕ} {form rest : List ℕ} (h : Header) (pass count : ℕ) (text : List ℕ) → Wrote most 0 form [] rest end
    → length form ≤ most_header + most_depth * count
    → judged h pass count (leb end (length (rest ++ text))) ≡ judged h pass count (leb (length form) (length text))
form_judged {end = end} {form = form} h pass count text w short =
    rw (into_nothing w)
    (same_room h pass count (leb end (length text)) (leb (length form) (length text))
    (λ good e. let near = few_bytes h count (length form) good e short in ap (λ (n : ℕ). leb n (length text)) (omega (arith, w.put.end, near))))

-- what a verdict of the code says of the paper's
pub taken : {v : Result (Unit {0}) BadGrid} {done : Unit {0}} (verdict : Verdict) → verdict_as v ≡ verdict → v ≡ Ok done → verdict ≡ accepted
taken verdict says e = sym says ∙ ap verdict_as e

pub left : {v : Result (Unit {0}) BadGrid} (verdict : Verdict) (bad : BadGrid) → verdict_as v ≡ verdict → v ≡ Err bad → verdict ≡ refused bad.0
left verdict bad says e = sym says ∙ ap verdict_as e

module _ (verdict : Verdict) (form before after : List ℕ) where
  pub writes_yes :
      {most count : ℕ} → verdict ≡ accepted → length form ≤ length before → length before ≤ farthest → Wrote most 0 form before after count
      → Writes verdict form before after (Ok count)
  unfolding on_accepted answer_in
  writes_yes e fits long w = record { answer = rw e (ap Ok (omega (arith, w.put.end))); bytes = rw e w.put.buffer }

  pub writes_no : (bad : BadGrid) → verdict ≡ refused bad.0 → after ≡ before → Writes verdict form before after (Err bad)
  unfolding on_accepted answer_in
  writes_no bad e same = record { answer = rw e refl; bytes = rw e same }

-- an accepted verdict says that there is room
pub room_enough : (h : Header) (pass count need room : ℕ) → judged h pass count (leb need room) ≡ accepted → need ≤ room
room_enough h pass count need room e = leb-true need room (fit h pass count (leb need room) e).room

-- the header that is read is the paper's
pub header_back : (ws : List (List ℕ)) → header_as (header_in (header_of ws)) ≡ header_of ws
unfolding header_of values_in
header_back ws =
    by_cases (named ws)
    (λ e. rw (e, text_back _ (measured_few (word_at ws 5)), text_back _ (measured_few (word_at ws 7)), text_back _ (measured_few (word_at ws 9))) refl)
    (λ e. rw (e, text_back [] (omega arith)) refl)

-- and its texts are short
pub record Short (h : Header) : Type 0 where
  pub x : length h.x_corner ≤ most_characters
  pub y : length h.y_corner ≤ most_characters
  pub cell : length h.cell_size ≤ most_characters

no_short : Short no_header
no_short = record { x = omega arith; y = omega arith; cell = omega arith }

read_short : (ws : List (List ℕ)) → Short (header_of ws)
unfolding header_of values_in
read_short ws =
    by_cases (named ws) (λ e. rw e (record { x = measured_few (word_at ws 5); y = measured_few (word_at ws 7); cell = measured_few (word_at ws 9) }))
    (λ e. rw e no_short)

pub answered_short : (verdict : Verdict) (text : List ℕ) → Short (on_accepted verdict (header_read text) no_header)
unfolding on_accepted
answered_short accepted text = read_short (words text)
answered_short (refused place) text = no_short

module _ (text : List ℕ) (start end : ℕ) (last : WordAt text 11 start end) where
  pub cells_after : wholes (words (drop end text)) ≡ cells_read text
  unfolding cells_in
  cells_after = ap wholes last.after

  pub read_judged :
      (h : code.Header) (pass count room : ℕ) → h ≡ header_in (header_read text) → pass ≡ passing (cell_fits h.no_data) (wholes (words (drop end text)))
      → count ≡ length (wholes (words (drop end text)))
      → judged (header_as h) pass count (leb count room) ≡ read_verdict text room
  unfolding read_verdict
  read_judged h pass count room eh ep ec = rw (ep, ec, cells_after, eh, header_back (words text)) refl

module _ (text : List ℕ) (before after : List ℤ) where
  pub reads_yes :
      (h : code.Header) → read_verdict text (length before) ≡ accepted → h ≡ header_in (header_read text) → after ≡ sets before 0 (cells_read text)
      → Reads text before after (Ok h)
  unfolding on_accepted answer_in
  reads_yes h e header cells = record { answer = rw e (ap Ok header); cells = rw e cells }

  pub reads_no : (bad : BadGrid) → read_verdict text (length before) ≡ refused bad.0 → after ≡ before → Reads text before after (Err bad)
  unfolding on_accepted answer_in
  reads_no bad e same = record { answer = rw e refl; cells = rw e same }

-- what an answer says of the paper's verdict
answer_says : {T : Type 0} (v : Verdict) (x : T) → verdict_as (answer_in v x) ≡ v
unfolding answer_in
answer_says accepted x = refl
answer_says (refused place) x = refl

pub reads_verdict : {text : List ℕ} {before after : List ℤ} {r : Result code.Header BadGrid} → Reads text before after r → verdict_as r ≡ read_verdict text (length before)
reads_verdict {text = text} {before = before} read =
    ap verdict_as read.answer ∙ answer_says (read_verdict text (length before)) (header_in (header_read text))
