-- The reader's way through a text, word by word: what is read of all of it is what is stored and what is left to read, since each word's number is stored
-- and counted before the next word is looked for. What a word means has at most nine digits, so that it fits 32 bits with its sign.
use mathlib.Core.Path.{◌≡◌, refl, sym, ap, ◌∙◌}
use mathlib.Core.Bool.{false}
use mathlib.Core.List.{List, []}
use Prim.Native.Nat.{ℕ, zero, suc, ◌+◌, ◌*◌, ◌≤◌, ◌<◌}
use native.Mathlib.Nat.{add-zero, zero-add}
use native.Mathlib.Numerals.{add-one}
use native.Mathlib.Omega.{arith}
use lib.IntN.{ℤ, pos, negsuc, ◌-ℤ◌}
use lib.ListN.{length, drop, set, length-set}
use lib.Seq.{sets}
use mir.Syntax.{w32}
use mir.Val.{SFits, to_z, of_z}
use mir.Facts.{to_z-of_z, to_z_pos}
use borrow.Author.Tests.{lt-ltb}
use Rattle.std.specs.Prelude.{Some, None, Result, Err}
use Rattle.words.specs.Words.{words}
use Rattle.words.specs.Numbers.{Word, good, bad, number, number_in}
use Rattle.words.specs.Spans.{part, NextWord}
use Rattle.words.proofs.NumberLaws.{NineDigits, Small, number_small}
use Rattle.words.proofs.WordLaws.{words_few}
use Rattle.lines.specs.Reading.{Reading, and_then, meant, reading}
use Rattle.season.specs.Reading.{days_in, weather_in, ReadDays}
use Rattle.season.specs.declared.reading.WeatherError.{WeatherError}
use Rattle.season.specs.declared.reading.WeatherError.TheVariants.{BadWord}

-- a number that is read has at most nine digits
number_fits : (m : Word) (z : ℤ) → Small m → Some z ≡ number_in m → SFits w32 z
unfolding Small NineDigits number_in
number_fits (good (pos n)) z s e = let same : z ≡ pos n = cc in rw same (record { sfits = omega (arith, s) })
number_fits (good (negsuc n)) z s e = let same : z ≡ negsuc n = cc in rw same (record { sfits = omega (arith, s) })
number_fits bad z s e = absurd (let o : ◌≡◌ {A = ℕ} 0 1 = cc in omega arith)

-- what is read of all is what is stored in front and what is left
pub record Left (before : List ℤ) (all : Reading) (now : List ℤ) (count : ℕ) (left : Reading) : Type 0 where
  pub stored : sets before 0 all.numbers ≡ sets now count left.numbers
  pub counted : length all.numbers ≡ count + length left.numbers
  pub whole : all.whole ≡ left.whole

module _ (before : List ℤ) (all : Reading) (now : List ℤ) (count : ℕ) where
  good_word :
      (m : Word) (rest : Reading) (z : ℤ) → Some z ≡ number_in m → Left before all now count (and_then m rest)
      → Left before all (set now count z) (count + 1) rest
  unfolding and_then number_in
  good_word (good y) rest z e l =
      let same : z ≡ y = cc in
      record {
        stored = rw (same, add-one count) l.stored;
        counted = omega (arith, l.counted);
        whole = l.whole;
      }
  good_word bad rest z e l = absurd (let o : ◌≡◌ {A = ℕ} 0 1 = cc in omega arith)

  bad_word :
      (m : Word) (rest : Reading) → None ≡ number_in m → Left before all now count (and_then m rest)
      → Left before all now count (record { numbers = []; whole = false })
  unfolding and_then number_in
  bad_word (good z) rest e l = absurd (let o : ◌≡◌ {A = ℕ} 0 1 = cc in omega arith)
  bad_word bad rest e l = l

-- where the reader stands, before a word or after the last: a word takes at least two bytes with the blank after it
pub record Stands (text : List ℕ) (before now : List ℤ) (count start end : ℕ) : Type 0 where
  pub from : ℕ
  pub next : NextWord text from start end
  pub left : Left before (reading text) now count (reading (drop from text))
  pub few : 2 * (count + length (words (drop from text))) ≤ length text + 1
  pub sized : length now ≡ length before

pub stands_first : (text : List ℕ) (before : List ℤ) (start end : ℕ) → NextWord text 0 start end → Stands text before before 0 start end
stands_first text before start end next =
    record {
      from = 0;
      next = next;
      left = record { stored = refl; counted = sym (zero-add (length (reading text).numbers)); whole = refl };
      few = omega (arith, words_few text);
      sized = refl;
    }

module _ (text : List ℕ) (before now : List ℤ) (count start end : ℕ) (s : Stands text before now count start end) where
  module _ (more : start < end) where
    onward : reading (drop s.from text) ≡ and_then (number (part text start end)) (reading (drop end text))
    unfolding reading meant
    onward = rw (s.next.found more) refl

    ahead : length (words (drop s.from text)) ≡ suc (length (words (drop end text)))
    ahead = ap length (s.next.found more)

    pub count_few : count < length text
    count_few = omega (arith, s.few, ahead, s.next.inside more)

    pub next_number :
        (z : ℤ) (now' : List ℤ) (start' end' : ℕ) → Some z ≡ number_in (number (part text start end)) → now' ≡ set now count (to_z w32 (of_z w32 z))
        → NextWord text end start' end' → Stands text before now' (count + 1) start' end'
    next_number z now' start' end' e wrote next =
        let word = part text start end in
        let is : now' ≡ set now count z = wrote ∙ ap (set now count) (to_z-of_z (number_fits (number word) z (number_small word) e)) in
        record {
          from = end;
          next = next;
          left = rw is (good_word before (reading text) now count (number word) (reading (drop end text)) z e (rw onward at s.left));
          few = omega (arith, s.few, ahead);
          sized = ap length is ∙ length-set now count z ∙ s.sized;
        }

    pub bad_end : None ≡ number_in (number (part text start end)) → ReadDays text before now (Err (BadWord count))
    unfolding weather_in
    bad_end e =
        let l = bad_word before (reading text) now count (number (part text start end)) (reading (drop end text)) e (rw onward at s.left) in
        let n : length (reading text).numbers ≡ count = l.counted ∙ add-zero count in
        record { answer = rw (l.whole, n) refl; numbers = sym l.stored }

  pub all_read : end ≤ start → (r : Result ℕ WeatherError) → r ≡ days_in count (length now) → ReadDays text before now r
  unfolding weather_in reading meant
  all_read none r e =
      let l : Left before (reading text) now count (meant []) = rw (s.next.none none) at s.left in
      let n : length (reading text).numbers ≡ count = l.counted ∙ add-zero count in
      record { answer = e ∙ rw (l.whole, n, s.sized) refl; numbers = sym l.stored }
