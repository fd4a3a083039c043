-- The reader's way through a text, word by word: what is read of all of it is what is stored and what is left to read. Every code is below two
-- thousand million, where a word that is no number stands, and gives its number back.
use mathlib.Core.Path.{◌≡◌, refl, sym, ap, ◌∙◌}
use mathlib.Core.Bool.{Bool, true, false}
use mathlib.Core.List.{List, [], ◌∷◌}
use Prim.Native.Nat.{ℕ, zero, suc, ◌+◌, ◌≤◌, ◌<◌, zero-le}
use native.Mathlib.Nat.{add-zero, zero-add}
use native.Mathlib.Numerals.{add-one}
use native.Mathlib.Omega.{arith}
use lib.Dec.{ltb}
use lib.IntN.{ℤ, pos, negsuc, nat_abs}
use lib.Signed.{lt_z}
use mir.Facts.{to_z-of_z}
use mir.Syntax.{w32}
use mir.Val.{to_z, of_z}
use lib.ListN.{length, get_or, take, drop, set, drop_of_length-le}
use lib.Seq.{sets, sets-eq, take_at}
use borrow.Author.Tests.{lt-ltb, le-ltb, ltb-true}
use Rattle.theory.proofs.Cases.{by_cases}
use Rattle.words.specs.Words.{pieces, kept, words}
use Rattle.words.specs.Numbers.{Word, good, bad, number, number_in}
use Rattle.words.specs.Spans.{part, NextWord}
use Rattle.words.proofs.NumberLaws.{NineDigits, Small, number_small}
use Rattle.words.proofs.WordLaws.{words_few}
use Rattle.lines.specs.Reading.{Reading, and_then, meant, reading, most_bytes, given, negatives, code, codes, signed, no_number, code_of, most_numbers, form_in, Read}
use Rattle.lines.specs.declared.reading.BadForm.{BadForm}
use Rattle.std.specs.Prelude.{Some, None, Result, Ok, Err}

-- a word's code, by its number
pub code_none : (m : Word) → None ≡ number_in m → no_number ≡ code_of m
unfolding number_in code_of
code_none (good z) e = absurd (let z : ◌≡◌ {A = ℕ} 0 1 = cc in omega arith)
code_none bad e = refl

number_only : (m : Word) (z : ℤ) → Some z ≡ number_in m → m ≡ good z
unfolding number_in
number_only (good y) z e = let same : y ≡ z = cc in ap good same
number_only bad z e = absurd (let z : ◌≡◌ {A = ℕ} 0 1 = cc in omega arith)

nine_size : (z : ℤ) → NineDigits z → nat_abs z < negatives
unfolding NineDigits
nine_size (pos n) s = s
nine_size (negsuc m) s = s

size_plain : (z : ℤ) → lt_z z (pos 0) ≡ false → nat_abs z ≡ code z
unfolding code
size_plain (pos n) h = refl
size_plain (negsuc m) h = absurd (let o : ◌≡◌ {A = ℕ} 0 1 = cc in omega arith)

size_below : (z : ℤ) → lt_z z (pos 0) ≡ true → negatives + nat_abs z ≡ code z
unfolding code
size_below (pos n) h = absurd (omega (arith, ltb-true n 0 h))
size_below (negsuc m) h = refl

-- a number has nine digits, so as it is held it is itself
held : (z : ℤ) → NineDigits z → to_z w32 (of_z w32 z) ≡ z
unfolding NineDigits
held (pos n) s = to_z-of_z {w = w32} {z = pos n} (record { sfits = omega (arith, s) })
held (negsuc m) s = to_z-of_z {w = w32} {z = negsuc m} (record { sfits = omega (arith, s) })

module _ (m : Word) (z : ℤ) (small : Small m) (e : Some z ≡ number_in m) where
  is_number : m ≡ good z
  unfolding number_in
  is_number = number_only m z e

  nine : NineDigits z
  unfolding Small
  nine = rw is_number at small

  abbrev size : ℕ
  size = nat_abs (to_z w32 (of_z w32 z))

  abbrev below : Bool
  below = lt_z (to_z w32 (of_z w32 z)) (pos 0)

  pub size_small : size < negatives
  size_small = rw (held z nine) (nine_size z nine)

  pub code_plain : below ≡ false → size ≡ code_of m
  unfolding code_of
  code_plain h = rw is_number (rw (held z nine) (size_plain z (rw (held z nine) at h)))

  pub code_below : below ≡ true → negatives + size ≡ code_of m
  unfolding code_of
  code_below h = rw is_number (rw (held z nine) (size_below z (rw (held z nine) at h)))

code_small : (z : ℤ) → Small (good z) → code z < no_number
unfolding Small NineDigits code
code_small (pos n) s = omega (arith, s)
code_small (negsuc m) s = omega (arith, s)

pub codes_length : (zs : List ℤ) → length (codes zs) ≡ length zs
unfolding codes
codes_length [] = refl
codes_length (z ∷ zs) = ap suc (codes_length zs)

-- what a word adds to what is read after it
abbrev codes_of : Reading → List ℕ
codes_of r = codes r.numbers

-- all is what is stored in front and what is left
pub record Left (before : List ℕ) (all : Reading) (numbers : List ℕ) (count : ℕ) (left : Reading) : Type 0 where
  pub stored : sets before 0 (codes_of all) ≡ sets numbers count (codes_of left)
  pub counted : length all.numbers ≡ count + length left.numbers
  pub whole : all.whole ≡ left.whole

module _ (before : List ℕ) (all : Reading) (numbers : List ℕ) (count : ℕ) where
  good_word :
      (m : Word) (rest : Reading) (c : ℕ) → c ≡ code_of m → c < no_number → Left before all numbers count (and_then m rest)
      → Left before all (set numbers count c) (count + 1) rest
  unfolding and_then code_of codes
  good_word (good z) rest c e h l =
      record {
        stored = rw (e, add-one count) l.stored;
        counted = omega (arith, l.counted);
        whole = l.whole;
      }
  good_word bad rest c e h l = absurd (omega (arith, e))

  bad_word :
      (m : Word) (rest : Reading) (c : ℕ) → Small m → c ≡ code_of m → no_number ≤ c → Left before all numbers count (and_then m rest)
      → Left before all numbers count (record { numbers = []; whole = false })
  unfolding and_then code_of
  bad_word (good z) rest c s e h l = absurd (omega (arith, e, code_small z s))
  bad_word bad rest c s e h l = l

-- where the reader stands: what is stored and counted, and room for a number of each word ahead
pub record Stands (input before numbers : List ℕ) (count from : ℕ) : Type 0 where
  pub left : Left before (reading input) numbers count (reading (drop from input))
  pub room : count + length (words (drop from input)) ≤ most_numbers

pub stands_first : (input before : List ℕ) → length input ≤ most_bytes → Stands input before before 0 0
stands_first input before short =
    record {
      left = record { stored = refl; counted = sym (zero-add (length (reading input).numbers)); whole = refl };
      room = omega (arith, words_few input);
    }

-- nothing is left
all_read :
    (input before numbers : List ℕ) (count : ℕ) (whole : Bool) → count ≤ most_numbers
    → Left before (reading input) numbers count (record { numbers = []; whole = whole })
    → Read (reading input) before numbers (form_in whole count)
unfolding codes
all_read input before numbers count whole most l =
    let n : length (reading input).numbers ≡ count = l.counted ∙ add-zero count in
    record { form = rw (l.whole, n) refl; numbers = sym l.stored; few = rw n most }

module _ (input before numbers : List ℕ) (count from : ℕ) (s : Stands input before numbers count from) where
  no_more : words (drop from input) ≡ [] → Read (reading input) before numbers (Ok count)
  unfolding form_in reading meant
  no_more e = all_read input before numbers count true (omega (arith, s.room)) (rw e at s.left)

  pub text_end : length input ≤ from → Read (reading input) before numbers (Ok count)
  unfolding words pieces kept
  text_end h = no_more (rw (drop_of_length-le input {i = from} h) refl)

  module _ (start end : ℕ) (next : NextWord input from start end) where
    pub blanks_end : end ≤ start → Read (reading input) before numbers (Ok count)
    blanks_end h = no_more (next.none h)

    module _ (more : start < end) where
      abbrev word : List ℕ
      word = part input start end

      onward : reading (drop from input) ≡ and_then (number word) (reading (drop end input))
      unfolding reading meant
      onward = rw (next.found more) refl

      ahead : length (words (drop from input)) ≡ suc (length (words (drop end input)))
      ahead = ap length (next.found more)

      pub room_left : count < most_numbers
      room_left = omega (arith, s.room, ahead)

      pub next_number :
          (c : ℕ) → c ≡ code_of (number word) → c < no_number → Stands input before (set numbers count c) (count + 1) end
      next_number c e h =
          record {
            left = good_word before (reading input) numbers count (number word) (reading (drop end input)) c e h (rw onward at s.left);
            room = omega (arith, s.room, ahead);
          }

      pub bad_end : (c : ℕ) → c ≡ code_of (number word) → no_number ≤ c → Read (reading input) before numbers (Err (record { 0 = count }))
      unfolding form_in
      bad_end c e h =
          all_read input before numbers count false (omega (arith, s.room))
          (bad_word before (reading input) numbers count (number word) (reading (drop end input)) c (number_small word) e h (rw onward at s.left))

-- of a text that is too long nothing is read
pub read_short : (input before after : List ℕ) (r : Result ℕ BadForm) → length input ≤ most_bytes → Read (reading input) before after r → Read (given input) before after r
unfolding given
read_short input before after r h read = rw (le-ltb most_bytes (length input) h) read

pub read_none : (input before : List ℕ) → most_bytes < length input → Read (given input) before before (Err (record { 0 = 0 }))
unfolding given form_in codes
read_none input before h = rw (lt-ltb most_bytes (length input) h) (record { form = refl; numbers = refl; few = zero-le })

-- the numbers that were read are the front of the lent ones
pub front :
    (all : Reading) (before numbers : List ℕ) (r : Result ℕ BadForm) → length before ≡ most_numbers → Read all before numbers r
    → take (length all.numbers) numbers ≡ codes all.numbers
front all before numbers r long read =
    let zs = all.numbers in
    let few = read.few in
    let same : length (codes zs) ≡ length zs = codes_length zs in
    rw (read.numbers, sets-eq (codes zs) before 0 (omega arith))
    (take_at (codes zs) (drop (0 + length (codes zs)) before) (length zs) same)

-- every code is below two thousand million
small_then :
    (m : Word) (rest : Reading) → Small m → ((k : ℕ) → get_or (codes_of rest) k 0 < no_number) → (k : ℕ)
    → get_or (codes_of (and_then m rest)) k 0 < no_number
unfolding and_then codes
small_then (good z) rest s small zero = code_small z s
small_then (good z) rest s small (suc k) = small k
small_then bad rest s small k = omega arith

meant_small : (ws : List (List ℕ)) (k : ℕ) → get_or (codes_of (meant ws)) k 0 < no_number
unfolding meant codes
meant_small [] k = omega arith
meant_small (w ∷ ws) k = small_then (number w) (meant ws) (number_small w) (meant_small ws) k

pub codes_small : (input : List ℕ) (k : ℕ) → get_or (codes_of (given input)) k 0 < no_number
unfolding given reading codes
codes_small input k =
    by_cases (ltb most_bytes (length input)) (λ e. rw e (omega arith)) (λ e. rw e (meant_small (words input) k))

-- every code gives its number back; past the last both lists have zeros
pub code_back : (z : ℤ) → NineDigits z → signed (code z) ≡ z
unfolding NineDigits signed code
code_back (pos n) h = let less : n ≤ negatives = omega (arith, h) in rw (le-ltb negatives n less) refl
code_back (negsuc m) h =
    let more : negatives < negatives + suc m = omega arith in
    rw (lt-ltb negatives (negatives + suc m) more) (ap negsuc (omega arith))

abbrev Back : Reading → Type 0
Back r = (k : ℕ) → signed (get_or (codes_of r) k 0) ≡ get_or r.numbers k (pos 0)

none_back : (whole : Bool) → Back (record { numbers = []; whole = whole })
unfolding codes signed
none_back whole k = refl

back_then : (m : Word) (rest : Reading) → Small m → Back rest → Back (and_then m rest)
unfolding Small and_then codes
back_then (good z) rest s back zero = code_back z s
back_then (good z) rest s back (suc k) = back k
back_then bad rest s back k = none_back false k

meant_back : (ws : List (List ℕ)) → Back (meant ws)
unfolding meant
meant_back [] = none_back true
meant_back (w ∷ ws) = back_then (number w) (meant ws) (number_small w) (meant_back ws)

pub codes_back : (input : List ℕ) → Back (given input)
unfolding given reading
codes_back input k =
    by_cases (ltb most_bytes (length input)) (λ e. rw e (none_back false k)) (λ e. rw e (meant_back (words input) k))
