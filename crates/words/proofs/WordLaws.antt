-- Words by their places: blanks before a word do not change the words, a run of other bytes is the first of them, and those after it are the words
-- from its end on. A word and the blank after it take two bytes, so that a text has at most half as many words as bytes, and one. Lines by theirs: the
-- bytes before a line feed are the first of them, and those after it are the lines from there on; a line takes at least a byte.
use mathlib.Core.Path.{◌≡◌, refl, sym, ap, ◌∙◌}
use mathlib.Core.Bool.{true, false, cond}
use mathlib.Core.List.{List, [], ◌∷◌}
use Prim.Native.Nat.{ℕ, suc, ◌+◌, ◌*◌, ◌-◌, ◌≤◌, ◌<◌, zero-le}
use native.Mathlib.Nat.{not-suc-le-zero}
use native.Mathlib.Numerals.{add-one}
use native.Mathlib.Omega.{arith}
use lib.ListN.{length, get_or, take, drop, length-drop, drop_of_length-le}
use lib.Seq.{drop-cons, drop-drop}
use Rattle.theory.proofs.Cases.{by_cases, below_or_not}
use lib.Dec.{eqb}
use Rattle.words.specs.Words.{is_blank, longer, pieces, kept, words, lines_of}
use Rattle.words.specs.Spans.{stops_at, before, blanks, run, line_run, NextWord, NextLine}
use Rattle.words.specs.declared.spans.Stop.{Stop}
use Rattle.words.specs.declared.spans.Stop.TheVariants.{WordByte, Blank, LineFeed}

-- the pieces after the first
unfoldable pub after : List ℕ → List (List ℕ)
after [] = []
after (b ∷ bs) = cond (is_blank b) (pieces bs) (after bs)

pub first_piece : (l : List ℕ) → pieces l ≡ take (run l) l ∷ after l
unfolding pieces longer before stops_at after
first_piece [] = refl
first_piece (b ∷ bs) = by_cases (is_blank b) (λ e. rw e refl) (λ e. rw (e, first_piece bs) refl)

after_run : (l : List ℕ) → kept (after l) ≡ words (drop (run l) l)
unfolding pieces kept before stops_at after words
after_run [] = refl
after_run (b ∷ bs) = by_cases (is_blank b) (λ e. rw (e, e) refl) (λ e. rw e (after_run bs))

words_skip : (l : List ℕ) → words (drop (blanks l) l) ≡ words l
unfolding words pieces kept before stops_at
words_skip [] = refl
words_skip (b ∷ bs) = by_cases (is_blank b) (λ e. rw e (words_skip bs)) (λ e. rw (e, e) refl)

words_run : (l : List ℕ) → 1 ≤ run l → words l ≡ take (run l) l ∷ words (drop (run l) l)
unfolding words kept before stops_at
words_run [] h = absurd (not-suc-le-zero h)
words_run (b ∷ bs) h =
    by_cases (is_blank b) (λ e. absurd (not-suc-le-zero (rw e at h)))
    (λ e. rw (first_piece (b ∷ bs), ← after_run (b ∷ bs), e) refl)

-- after the blanks a run begins, or the text is at its end
words_none : (l : List ℕ) → run (drop (blanks l) l) ≡ 0 → words l ≡ []
unfolding words pieces kept before stops_at
words_none [] h = refl
words_none (b ∷ bs) h =
    by_cases (is_blank b) (λ e. rw e (words_none bs (rw e at h)))
    (λ e. let none : suc (run bs) ≡ 0 = rw (e, e) at h in absurd (omega arith))

before_inside : (stop : Stop) (l : List ℕ) → before stop l ≤ length l
unfolding before
before_inside stop [] = zero-le
before_inside stop (b ∷ bs) = by_cases (stops_at stop b) (λ e. rw e zero-le) (λ e. rw e (omega (arith, before_inside stop bs)))

-- what a loop over the bytes learns from the byte at its place
module _ (stop : Stop) (l : List ℕ) (i : ℕ) where
  pub before_more : i < length l → stops_at stop (get_or l i 0) ≡ false → before stop (drop i l) ≡ suc (before stop (drop (i + 1) l))
  unfolding before
  before_more h e = rw (drop-cons l i 0 h, e, add-one i) refl

  pub before_stop : i < length l → stops_at stop (get_or l i 0) ≡ true → before stop (drop i l) ≡ 0
  unfolding before
  before_stop h e = rw (drop-cons l i 0 h, e) refl

  pub before_end : length l ≤ i → before stop (drop i l) ≡ 0
  unfolding before
  before_end h = rw (drop_of_length-le l {i = i} h) refl

module _ (text : List ℕ) (from start end : ℕ) (skipped : start ≡ from + blanks (drop from text)) (ran : end ≡ start + run (drop start text)) where
  rest : drop start text ≡ drop (blanks (drop from text)) (drop from text)
  rest = rw skipped (sym (drop-drop (blanks (drop from text)) from text))

  same_words : words (drop start text) ≡ words (drop from text)
  same_words = rw rest (words_skip (drop from text))

  length_run : end - start ≡ run (drop start text)
  length_run = omega (arith, ran)

  is_found_lem : start < end → words (drop from text) ≡ take (end - start) (drop start text) ∷ words (drop end text)
  is_found_lem h =
      sym same_words
      ∙ words_run (drop start text) (omega (arith, ran))
      ∙ rw (length_run, ran) (ap (λ (l : List ℕ). take (run (drop start text)) (drop start text) ∷ words l) (drop-drop (run (drop start text)) start text))

  is_none : end ≤ start → words (drop from text) ≡ []
  is_none h = words_none (drop from text) (rw (← rest) (omega (arith, ran)))

  pub next_word : NextWord text from start end
  next_word =
      record {
        starts = skipped;
        ends = ran;
        found = is_found_lem;
        none = is_none;
        inside = λ h. omega (arith, ran, before_inside Blank (drop start text), length-drop start text);
        forward = omega (arith, skipped);
        ordered = omega (arith, ran);
      }

-- past the last word there is none, and no place is past the text's end
pub none_after : (text : List ℕ) (from start end : ℕ) → NextWord text from start end → end ≤ start → words (drop end text) ≡ []
none_after text from start end next h =
    let same : end ≡ start = omega (arith, next.ordered) in
    rw same (same_words text from start end next.starts next.ends ∙ next.none h)

pub end_inside : (text : List ℕ) (from start end : ℕ) → NextWord text from start end → from ≤ length text → end ≤ length text
end_inside text from start end next h =
    below_or_not start end next.inside
    (λ none. omega (arith, next.starts, next.ordered, before_inside WordByte (drop from text), length-drop from text))

kept_more : (p : List ℕ) (ps : List (List ℕ)) → length (kept (p ∷ ps)) ≤ length (kept ps) + 1
unfolding kept
kept_more [] ps = omega arith
kept_more (b ∷ p) ps = omega arith

words_one : (l : List ℕ) → length (words l) ≤ length (kept (after l)) + 1
unfolding words
words_one l = rw (first_piece l) (kept_more (take (run l) l) (after l))

words_none_first : (l : List ℕ) → run l ≡ 0 → length (words l) ≡ length (kept (after l))
unfolding words kept
words_none_first l h = rw (first_piece l, h) refl

half : (l : List ℕ) → 2 * length (kept (after l)) + run l ≤ length l → 2 * length (words l) ≤ length l + 1
half l h =
    below_or_not (run l) 1 (λ none. omega (arith, words_none_first l (omega arith))) (λ some. omega (arith, words_one l))

words_after : (l : List ℕ) → 2 * length (kept (after l)) + run l ≤ length l
unfolding after kept before stops_at words
words_after [] = zero-le
words_after (b ∷ bs) =
    by_cases (is_blank b) (λ e. rw e (omega (arith, half bs (words_after bs)))) (λ e. rw e (omega (arith, words_after bs)))

pub words_few : (l : List ℕ) → 2 * length (words l) ≤ length l + 1
words_few l = half l (words_after l)

-- ---- lines
lines_first : (l : List ℕ) → 0 < length l → lines_of l ≡ take (line_run l) l ∷ lines_of (drop (suc (line_run l)) l)
unfolding lines_of longer before stops_at
lines_first [] h = absurd (not-suc-le-zero h)
lines_first (b ∷ []) h = by_cases (eqb b 10) (λ e. rw e refl) (λ e. rw e refl)
lines_first (b ∷ x ∷ bs) h =
    by_cases (eqb b 10) (λ e. rw e refl) (λ e. rw (e, lines_first (x ∷ bs) (omega arith)) refl)

longer_one : (b : ℕ) (ls : List (List ℕ)) → length (longer b ls) ≤ length ls + 1
unfolding longer
longer_one b [] = omega arith
longer_one b (l ∷ ls) = omega arith

pub lines_few : (l : List ℕ) → length (lines_of l) ≤ length l
unfolding lines_of
lines_few [] = zero-le
lines_few (b ∷ bs) =
    by_cases (eqb b 10) (λ e. rw e (omega (arith, lines_few bs))) (λ e. rw e (omega (arith, longer_one b (lines_of bs), lines_few bs)))

pub next_line : (text : List ℕ) (from end : ℕ) → end ≡ from + line_run (drop from text) → NextLine text from end
next_line text from end ran =
    let width : end - from ≡ line_run (drop from text) = omega (arith, ran) in
    let after : end + 1 ≡ from + suc (line_run (drop from text)) = omega (arith, ran) in
    record {
      ends = ran;
      found = λ h.
          lines_first (drop from text) (omega (arith, length-drop from text))
          ∙ rw (width, after, drop-drop (suc (line_run (drop from text))) from text) refl;
      inside = λ h. omega (arith, ran, before_inside LineFeed (drop from text), length-drop from text);
      forward = omega (arith, ran);
    }
