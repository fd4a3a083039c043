-- The answers, one after another: what is written of them and what is left are all of them. An answer has at most twenty bytes, since a line's number has at
-- most five digits and a refusal's two.
use mathlib.Core.Path.{◌≡◌, refl, sym, ap, ◌∙◌}
use mathlib.Core.Bool.{true}
use mathlib.Core.List.{List, [], ◌∷◌, ◌++◌, append_assoc, append-nil}
use Prim.Native.Nat.{ℕ, suc, ◌+◌, ◌*◌, ◌-◌, ◌≤◌, ◌<◌}
use native.Mathlib.Numerals.{add-one}
use native.Mathlib.Omega.{arith}
use lib.ListN.{length, drop, length-append, length-drop, drop_of_length-le}
use lib.Seq.{length-take-le}
use borrow.Author.Tests.{lt-ltb, le-ltb}
use Rattle.paper.specs.Limits.{most_potential}
use Rattle.theory.proofs.Cases.{by_cases}
use Rattle.paper.specs.Radiation.{Weather, Estimated, estimated, readings, weather_fits, potential_of, estimate_number, estimate_units, estimated_of}
use Rattle.paper.proofs.RadiationLaws.{estimated_fitting, estimated_outside, never_passes}
use Rattle.words.specs.Digits.{digits, bytes}
use Rattle.words.specs.Spans.{part, NextLine}
use Rattle.words.specs.Words.{lines_of}
use Rattle.words.specs.Writing.{farthest, Put, Wrote}
use Rattle.words.proofs.DigitLaws.{digits_below}
use Rattle.words.proofs.WordLaws.{lines_few}
use Rattle.words.proofs.WritingLaws.{put_none, put_then, put_as}
use Rattle.lines.specs.Lines.{row, refused_line}
use Rattle.lines.specs.Reading.{most_bytes, reading, given}
use Rattle.station.specs.Readings.{Line, estimate, malformed, line_in}
use Rattle.station.specs.Answers.{estimate_line, answer_to, answers, answered, most_answer, most_answers}

-- ---- what is told of an estimate
module _ {at r : ℕ} {l l' : List ℕ} (line : ℕ) (e : Estimated) where
  pub tells_estimate : (n : ℕ) → e ≡ estimated n → Put at (digits n ++ 10 ∷ []) l l' r → Put at (estimate_line line e) l l' r
  unfolding estimate_line row
  tells_estimate n is p = rw is p

  pub tells_refusal : e ≡ readings → Put at (refused_line (estimate_number readings) line) l l' r → Put at (estimate_line line e) l l' r
  unfolding estimate_line
  tells_refusal is p = rw is p

-- ---- and of a line, by what it asks for
module _ {at r : ℕ} {l l' : List ℕ} (number : ℕ) (line : Line) where
  pub answers_estimate : (w : Weather) (e : Estimated) → line ≡ estimate w → e ≡ estimated_of w → Put at (estimate_line number e) l l' r → Put at (answer_to number line) l l' r
  unfolding answer_to
  answers_estimate w e is by p = rw (is, ← by) p

  pub answers_malformed : line ≡ malformed → Put at (refused_line 11 number) l l' r → Put at (answer_to number line) l l' r
  unfolding answer_to
  answers_malformed is p = rw is p

-- ---- how long it is
refused_short : (number line : ℕ) → number < 100 → line < 100000 → length (refused_line number line) ≤ most_answer
unfolding refused_line row bytes
refused_short number line n l =
    let tail : List ℕ = 32 ∷ 97 ∷ 116 ∷ 32 ∷ (digits line ++ 10 ∷ []) in
    omega (arith, length-append (digits number) tail, length-append (digits line) (10 ∷ []), digits_below 1 number (omega arith), digits_below 4 line (omega arith))

row_short : (n : ℕ) → n < 100000 → length (row n []) ≤ most_answer
unfolding row
row_short n h = omega (arith, length-append (digits n) (10 ∷ []), digits_below 4 n (omega arith))

fitting_most : (w : Weather) → weather_fits w ≡ true → potential_of w ≤ most_potential
unfolding estimate_units
fitting_most w fits = rw (estimated_fitting w fits) at (never_passes w)

answer_short : (number : ℕ) (l : Line) → number < 100000 → length (answer_to number l) ≤ most_answer
unfolding answer_to estimate_line estimate_number
answer_short number (estimate w) h =
    by_cases (weather_fits w)
    (λ fits.
    let most : potential_of w ≤ most_potential = fitting_most w fits in
    rw (estimated_fitting w fits) (row_short (potential_of w) (omega arith)))
    (λ outside. rw (estimated_outside w outside) (refused_short 13 number (omega arith) h))
answer_short number malformed h = refused_short 11 number (omega arith) h

-- ---- line after line
-- a part of a text that is short enough is read whole
given_part : (text : List ℕ) (start end : ℕ) → length text ≤ most_bytes → end ≤ length text → given (part text start end) ≡ reading (part text start end)
unfolding given
given_part text start end few h =
    let width = length-take-le (end - start) (drop start text) (omega (arith, length-drop start text)) in
    rw (le-ltb most_bytes (length (part text start end)) (omega arith)) refl

module _ (input before : List ℕ) where
  pub record Answering (buffer : List ℕ) (at number from : ℕ) : Type 0 where
    pub done : List ℕ
    pub put : Put 0 done before buffer at
    pub left : answers 1 (lines_of input) ≡ done ++ answers number (lines_of (drop from input))
    pub counted : number + length (lines_of (drop from input)) ≡ 1 + length (lines_of input)
    pub short : length done + most_answer ≤ most_answer * number

  pub answering_first : Answering before 0 1 0
  answering_first = record { done = []; put = put_none 0 before (omega arith); left = refl; counted = refl; short = omega arith }

  module _ (buffer : List ℕ) (at number from : ℕ) (few : length input ≤ most_bytes) (a : Answering buffer at number from) where
    pub answering_end : length input ≤ from → Wrote most_answers 0 (answers 1 (lines_of input)) before buffer at
    unfolding lines_of answers
    answering_end h =
        let none : drop from input ≡ [] = drop_of_length-le input {i = from} h in
        let all : answers 1 (lines_of input) ≡ a.done = (rw none at a.left) ∙ append-nil a.done in
        let count : number + 0 ≡ 1 + length (lines_of input) = rw none at a.counted in
        record { put = put_as _ a.put (sym all); short = omega (arith, a.short, ap length all, lines_few input) }

    module _ (end : ℕ) (next : NextLine input from end) (more : from < length input) where
      abbrev asked : Line
      asked = line_in (reading (part input from end))

      onward : answers number (lines_of (drop from input)) ≡ answer_to number asked ++ answers (number + 1) (lines_of (drop (end + 1) input))
      unfolding answers
      onward = rw (next.found more, add-one number) refl

      ahead : length (lines_of (drop from input)) ≡ suc (length (lines_of (drop (end + 1) input)))
      ahead = ap length (next.found more)

      pub few_lines : number < 100000
      few_lines = omega (arith, a.counted, ahead, lines_few input)

      pub answering_next :
          {buffer' : List ℕ} {at' : ℕ} → length before ≤ farthest → Put at (answer_to number (line_in (given (part input from end)))) buffer buffer' at'
          → Answering buffer' at' (number + 1) (end + 1)
      answering_next room w =
          record {
            done = a.done ++ answer_to number asked;
            put = put_then room a.put (rw (given_part input from end few (next.inside more)) at w);
            left = a.left ∙ ap (λ (l : List ℕ). a.done ++ l) onward ∙ sym (append_assoc a.done (answer_to number asked) _);
            counted = omega (arith, a.counted, ahead);
            short = omega (arith, a.short, length-append a.done (answer_to number asked), answer_short number asked few_lines);
          }

-- ---- the whole text
pub text_long : (input : List ℕ) → most_bytes < length input → answered input ≡ refused_line 11 0
unfolding answered
text_long input h = rw (lt-ltb most_bytes (length input) h) refl

pub text_answered : (input : List ℕ) → length input ≤ most_bytes → answered input ≡ answers 1 (lines_of input)
unfolding answered
text_answered input h = rw (le-ltb most_bytes (length input) h) refl
