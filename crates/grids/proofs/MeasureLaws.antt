-- A measure's form, byte by byte: what a loop over its bytes has passed and what is left decide it together.
use mathlib.Core.Bool.{true, false, not, ◌&&◌}
use mathlib.Core.List.{List, [], ◌∷◌}
use mathlib.Core.Logic.{◌⊎◌, inl, inr}
use mathlib.Core.Path.{◌≡◌, refl, sym, ap, ◌∙◌}
use Prim.Native.Nat.{ℕ, suc, ◌+◌, ◌-◌, ◌≤◌, ◌<◌}
use native.Mathlib.Nat.{zero-add}
use native.Mathlib.Numerals.{add-one}
use native.Mathlib.Omega.{arith}
use lib.Dec.{eqb, leb}
use lib.ListN.{length, get_or, take, drop, replicate, length-drop, drop_of_length-le}
use lib.Seq.{sets, drop-cons, length-sets, sets-eq, take_all, take_at}
use borrow.Author.Tests.{lt-ltb, le-ltb, ne_eqb, leb-true}
use Rattle.theory.specs.Lists.{made}
use Rattle.theory.proofs.Cases.{by_cases, below_or_not, and_left}
use Rattle.theory.proofs.ListLaws.{made_length, made_cong, take_made}
use Rattle.words.specs.Numbers.{is_digit, all_digits}
use Rattle.words.specs.Writing.{Put}
use Rattle.grids.specs.Measures.{most_characters, is_digits, goes_on, is_unsigned, without_minus, is_measure, measured}
use Rattle.grids.specs.Given.{text_as, measure_in}
use Rattle.grids.specs.declared.measures.Measure.{Measure}

module _ (l : List ℕ) (i : ℕ) where
  pub all_next : i < length l → is_digit (get_or l i 0) ≡ true → all_digits (drop i l) ≡ all_digits (drop (i + 1) l)
  unfolding all_digits
  all_next h e = rw (drop-cons l i 0 h, e, add-one i) refl

  pub all_stop : i < length l → is_digit (get_or l i 0) ≡ false → all_digits (drop i l) ≡ false
  unfolding all_digits
  all_stop h e = rw (drop-cons l i 0 h, e) refl

  pub all_end : length l ≤ i → all_digits (drop i l) ≡ true
  unfolding all_digits
  all_end h = rw (drop_of_length-le l {i = i} h) refl

  pub on_point : i < length l → get_or l i 0 ≡ 46 → goes_on (drop i l) ≡ is_digits (drop (i + 1) l)
  unfolding goes_on
  on_point h e = rw (drop-cons l i 0 h, e, add-one i) refl

  module _ (h : i < length l) (n : get_or l i 0 ≡ 46 → ⊥) where
    pub on_next : is_digit (get_or l i 0) ≡ true → goes_on (drop i l) ≡ goes_on (drop (i + 1) l)
    unfolding goes_on
    on_next e = rw (drop-cons l i 0 h, ne_eqb (get_or l i 0) 46 n, e, add-one i) refl

    pub on_stop : is_digit (get_or l i 0) ≡ false → goes_on (drop i l) ≡ false
    unfolding goes_on
    on_stop e = rw (drop-cons l i 0 h, ne_eqb (get_or l i 0) 46 n, e) refl

  pub on_end : length l ≤ i → goes_on (drop i l) ≡ true
  unfolding goes_on
  on_end h = rw (drop_of_length-le l {i = i} h) refl

-- what a slice from a place on lends
pub rest_all : (l : List ℕ) (k : ℕ) → take (length l - k) (drop k l) ≡ drop k l
rest_all l k = take_all (length l - k) (drop k l) (omega (arith, length-drop k l))

-- digits, at least one; and how long a measure is
pub some_digits : (l : List ℕ) → (not (eqb (length l) 0) && all_digits l) ≡ is_digits l
unfolding is_digits all_digits
some_digits [] = refl
some_digits (b ∷ bs) = rw (ne_eqb (suc (length bs)) 0 (λ e. omega arith)) refl

pub measure_short : (l : List ℕ) → is_measure l ≡ true → length l ≤ most_characters
unfolding is_measure
measure_short l e = leb-true (length l) most_characters (and_left (leb (length l) most_characters) (is_unsigned (without_minus l)) e)

-- the text of a word, and of a record
pub kept_yes : (l : List ℕ) → is_measure l ≡ true → measured l ≡ l
unfolding measured
kept_yes l e = rw e refl

pub kept_no : (l : List ℕ) → is_measure l ≡ false → measured l ≡ []
unfolding measured
kept_no l e = rw e refl

pub measure_made :
    (text bytes : List ℕ) (count : ℕ) → length text ≤ most_characters → Put 0 text (replicate most_characters 0) bytes count
    → ◌≡◌ {A = Measure} (record { bytes = bytes; count = count }) (measure_in text)
unfolding measure_in
measure_made text bytes count h w =
    let same : count ≡ length text = omega (arith, w.end) in
    rw (w.buffer, same) refl

pub text_long : (m : Measure) → most_characters < m.count → text_as m ≡ []
unfolding text_as
text_long m h = rw (lt-ltb most_characters m.count h) refl

pub text_short : (m : Measure) → m.count ≤ most_characters → text_as m ≡ made m.count (λ i. get_or m.bytes i 0)
unfolding text_as
text_short m h = rw (le-ltb most_characters m.count h) refl

pub text_few : (m : Measure) → length (text_as m) ≤ most_characters
text_few m =
    below_or_not most_characters m.count (λ h. rw (text_long m h) (omega arith))
    (λ h. rw (text_short m h, made_length m.count (λ i. get_or m.bytes i 0)) h)

-- the bytes before the count, and a count past them all
module _ (m : Measure) (sized : length m.bytes ≡ most_characters) where
  pub text_some : (text : List ℕ) → m.count ≤ length m.bytes → text ≡ take (m.count - 0) (drop 0 m.bytes) → text ≡ text_as m
  text_some text h e =
      let all : m.count - 0 ≡ m.count = omega arith in
      let taken : take m.count m.bytes ≡ made m.count (λ i. get_or m.bytes (0 + i) 0) = take_made m.count 0 m.bytes (omega (arith, h)) in
      e
      ∙ ap (λ (n : ℕ). take n m.bytes) all
      ∙ taken
      ∙ made_cong m.count _ _ (λ i less. ap (λ (k : ℕ). get_or m.bytes k 0) (zero-add i))
      ∙ sym (text_short m (omega (arith, h, sized)))

  pub text_none : (m.count < 0) ⊎ (length m.bytes < m.count) → [] ≡ text_as m
  text_none (inl h) = absurd (omega (arith, h))
  text_none (inr h) = sym (text_long m (omega (arith, h, sized)))

-- a text in a record is the text
pub text_back : (text : List ℕ) → length text ≤ most_characters → text_as (measure_in text) ≡ text
unfolding measure_in
text_back text h =
    let zeros : List ℕ = replicate most_characters 0 in
    let bytes : List ℕ = sets zeros 0 text in
    text_short (measure_in text) h
    ∙ sym (take_made (length text) 0 bytes (rw (length-sets zeros 0 text) (omega arith)) ∙ made_cong (length text) _ _ (λ i less. ap (λ (k : ℕ). get_or bytes k 0) (zero-add i)))
    ∙ rw (sets-eq text zeros 0 (omega arith)) (take_at text (drop (0 + length text) zeros) (length text) refl)

pub measured_few : (w : List ℕ) → length (measured w) ≤ most_characters
measured_few w = by_cases (is_measure w) (λ e. rw (kept_yes w e) (measure_short w e)) (λ e. rw (kept_no w e) (omega arith))
