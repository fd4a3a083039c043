-- Decimal digits: a number's are its tenth part's and one more, twenty at most for 64 bits. Reading what is written gives the number back, and
-- writing what is read gives the word back.
use mathlib.Core.Path.{◌≡◌, refl, sym, ap, ◌∙◌}
use mathlib.Core.Bool.{true, cond, ◌&&◌, ◌||◌}
use mathlib.Core.List.{List, [], ◌∷◌, ◌++◌, append-nil}
use Prim.Native.Nat.{ℕ, zero, suc, ◌+◌, ◌*◌, ◌-◌, ◌/◌, ◌%◌, ◌^◌, ◌≤◌, ◌<◌, zero-le}
use native.Mathlib.Nat.{not-suc-le-zero, le_refl, pow-suc, zero-add}
use native.Mathlib.Omega.{arith}
use lib.IntN.{ℤ, pos, negsuc}
use lib.Dec.{eqb, leb}
use lib.ListN.{length, length-append}
use lib.Seq.{append_snoc}
use borrow.Author.Tests.{lt-ltb, le-ltb, le-leb, leb-true, eqb-true}
use Rattle.theory.proofs.Cases.{by_cases, below_or_not, and_left, and_right, and_both}
use Rattle.words.specs.Numbers.{is_digit, all_digits, spelled, is_first_digit, is_zero, is_count, number, good, bad}
use Rattle.words.specs.Digits.{digits_within, digits, written}
use Rattle.words.proofs.NumberLaws.{digit_low, digit_high, First, first_tests, count_above, NineDigits}

within_one : (most n : ℕ) → n < 10 → digits_within most n ≡ (48 + n) ∷ []
unfolding digits_within
within_one zero n h = refl
within_one (suc most) n h = simp (lt-ltb n 10 h)

within_more : (most n : ℕ) → 10 ≤ n → digits_within (suc most) n ≡ digits_within most (n / 10) ++ ((48 + n % 10) ∷ [])
unfolding digits_within
within_more most n h = simp (le-ltb n 10 h)

-- any bound from the number on gives the same digits
within_any : (f g n : ℕ) → n ≤ f → n ≤ g → digits_within f n ≡ digits_within g n
within_any zero g n hf hg = let h : n < 10 = omega arith in within_one zero n h ∙ sym (within_one g n h)
within_any (suc f) zero n hf hg = let h : n < 10 = omega arith in within_one (suc f) n h ∙ sym (within_one zero n h)
within_any (suc f) (suc g) n hf hg =
    below_or_not n 10 (λ h. within_one (suc f) n h ∙ sym (within_one (suc g) n h))
    (λ h.
    within_more f n h
    ∙ ap (λ (l : List ℕ). l ++ ((48 + n % 10) ∷ [])) (within_any f g (n / 10) (omega arith) (omega arith))
    ∙ sym (within_more g n h))

pub digits_one : (n : ℕ) → n < 10 → digits n ≡ (48 + n) ∷ []
unfolding digits
digits_one n h = within_one n n h

pub digits_more : (n : ℕ) → 10 ≤ n → digits n ≡ digits (n / 10) ++ ((48 + n % 10) ∷ [])
unfolding digits
digits_more zero h = absurd (not-suc-le-zero h)
digits_more (suc m) h =
    within_more m (suc m) h
    ∙ ap (λ (l : List ℕ). l ++ ((48 + suc m % 10) ∷ [])) (within_any m (suc m / 10) (suc m / 10) (omega arith) (le_refl (suc m / 10)))

pub digits_length : (n : ℕ) → 10 ≤ n → length (digits n) ≡ length (digits (n / 10)) + 1
digits_length n h = ap length (digits_more n h) ∙ length-append (digits (n / 10)) ((48 + n % 10) ∷ [])

pub digits_below : (k n : ℕ) → n < 10 * 10 ^ k → length (digits n) ≤ k + 1
digits_below zero n h = rw (digits_one n (omega arith)) (omega arith)
digits_below (suc k) n h =
    below_or_not n 10 (λ one. rw (digits_one n one) (omega arith))
    (λ more. omega (arith, digits_length n more, digits_below k (n / 10) (omega (arith, pow-suc 10 k))))

pub digits_short : (n : ℕ) → n < 2 ^ 64 → length (digits n) ≤ 20
digits_short n h = digits_below 19 n (omega arith)

-- digits after some others
spelled_more : (xs : List ℕ) (d m : ℕ) → spelled m (xs ++ (d ∷ [])) ≡ 10 * spelled m xs + (d - 48)
unfolding spelled
spelled_more [] d m = refl
spelled_more (x ∷ xs) d m = spelled_more xs d (10 * m + (x - 48))

all_more : (xs : List ℕ) (d : ℕ) → all_digits xs ≡ true → is_digit d ≡ true → all_digits (xs ++ (d ∷ [])) ≡ true
unfolding all_digits
all_more [] d h e = rw e refl
all_more (x ∷ xs) d h e =
    and_both (is_digit x) (all_digits (xs ++ (d ∷ []))) (and_left (is_digit x) (all_digits xs) h)
    (all_more xs d (and_right (is_digit x) (all_digits xs) h) e)

-- a number above 0 is spelled by a digit other than 0 and at most `most` after it
record Spelled (n most : ℕ) : Type 0 where
  first : ℕ
  rest : List ℕ
  same : digits n ≡ first ∷ rest
  tests : First first
  digits? : all_digits rest ≡ true
  short : length rest ≤ most
  value : spelled (first - 48) rest ≡ n

last_is_digit : (n : ℕ) → is_digit (48 + n % 10) ≡ true
unfolding is_digit
last_is_digit n = let low : 48 ≤ 48 + n % 10 = omega arith in let high : 48 + n % 10 ≤ 57 = omega arith in simp (le-leb)

one_spelled : (n most : ℕ) → 1 ≤ n → n < 10 → Spelled n most
unfolding spelled all_digits
one_spelled n most low high =
    record {
      first = 48 + n;
      rest = [];
      same = digits_one n high;
      tests = first_tests (48 + n) (omega arith) (omega arith);
      digits? = refl;
      short = zero-le;
      value = omega arith;
    }

next_spelled : (k n : ℕ) → 10 ≤ n → Spelled (n / 10) k → Spelled n (suc k)
next_spelled k n more s =
    record {
      first = s.first;
      rest = s.rest ++ ((48 + n % 10) ∷ []);
      same = digits_more n more ∙ ap (λ (l : List ℕ). l ++ ((48 + n % 10) ∷ [])) s.same;
      tests = s.tests;
      digits? = all_more s.rest (48 + n % 10) s.digits? (last_is_digit n);
      short = omega (arith, s.short, length-append s.rest ((48 + n % 10) ∷ []));
      value = spelled_more s.rest (48 + n % 10) (s.first - 48) ∙ omega (arith, s.value);
    }

spells : (k n : ℕ) → 1 ≤ n → n < 10 * 10 ^ k → Spelled n k
spells zero n low high = one_spelled n zero low (omega arith)
spells (suc k) n low high =
    below_or_not n 10 (one_spelled n (suc k) low)
    (λ more. next_spelled k n more (spells k (n / 10) (omega arith) (omega (arith, pow-suc 10 k))))

spelled_number : (n : ℕ) → Spelled n 8 → number (digits n) ≡ good (pos n)
unfolding number is_zero is_count spelled
spelled_number n s =
    let t = s.tests in
    let short = s.short in
    rw (s.same, t.minus?, t.zero?, t.first?, le-leb (length s.rest) 8 short, s.digits?, zero-add (s.first - 48), s.value) refl

below_number : (n : ℕ) → Spelled (suc n) 8 → number (45 ∷ digits (suc n)) ≡ good (negsuc n)
unfolding number is_count spelled
below_number n s =
    let short = s.short in
    rw (s.same, s.tests.first?, le-leb (length s.rest) 8 short, s.digits?, zero-add (s.first - 48), s.value)
    (ap (λ (k : ℕ). good (negsuc k)) (omega arith))

plain_back : (n : ℕ) → n < 1000000000 → number (digits n) ≡ good (pos n)
unfolding number is_zero spelled digits digits_within
plain_back zero h = refl
plain_back (suc n) h = spelled_number (suc n) (spells 8 (suc n) (omega arith) (omega arith))

-- what is written of a number of at most nine digits is read as that number
pub read_back : (z : ℤ) → NineDigits z → number (written z) ≡ good z
unfolding written NineDigits
read_back (pos n) h = plain_back n h
read_back (negsuc m) h = below_number m (spells 8 (suc m) (omega arith) (omega arith))

-- and what is read of a word is written as that word
digits_spelled : (ds : List ℕ) (m : ℕ) → 1 ≤ m → all_digits ds ≡ true → digits (spelled m ds) ≡ digits m ++ ds
unfolding all_digits spelled
digits_spelled [] m h e = sym (append-nil (digits m))
digits_spelled (b ∷ ds) m h e =
    let low = digit_low b (and_left (is_digit b) (all_digits ds) e) in
    let high = digit_high b (and_left (is_digit b) (all_digits ds) e) in
    let tenth : (10 * m + (b - 48)) / 10 ≡ m = omega arith in
    let last : 48 + (10 * m + (b - 48)) % 10 ≡ b = omega arith in
    digits_spelled ds (10 * m + (b - 48)) (omega arith) (and_right (is_digit b) (all_digits ds) e)
    ∙ rw (digits_more (10 * m + (b - 48)) (omega arith), tenth, last) (append_snoc (digits m) b ds)

count_back : (l : List ℕ) → is_count l ≡ true → digits (spelled 0 l) ≡ l
unfolding is_count is_first_digit spelled
count_back [] e = absurd (let z : ◌≡◌ {A = ℕ} 0 1 = cc in omega arith)
count_back (b ∷ bs) e =
    let first = and_left (leb 49 b && leb b 57) (leb (length bs) 8 && all_digits bs) e in
    let rest = and_right (leb 49 b && leb b 57) (leb (length bs) 8 && all_digits bs) e in
    let low : 49 ≤ b = leb-true 49 b (and_left (leb 49 b) (leb b 57) first) in
    let high : b ≤ 57 = leb-true b 57 (and_right (leb 49 b) (leb b 57) first) in
    let same : 48 + (10 * 0 + (b - 48)) ≡ b = omega arith in
    digits_spelled bs (10 * 0 + (b - 48)) (omega arith) (and_right (leb (length bs) 8) (all_digits bs) rest)
    ∙ rw (digits_one (10 * 0 + (b - 48)) (omega arith), same) refl

zero_back : (l : List ℕ) → is_zero l ≡ true → digits (spelled 0 l) ≡ l
unfolding is_zero spelled
zero_back [] e = absurd (let z : ◌≡◌ {A = ℕ} 0 1 = cc in omega arith)
zero_back (b ∷ []) e = rw (eqb-true b 48 (and_left (eqb b 48) (eqb 0 0) e)) (digits_one 0 (omega arith))
zero_back (b ∷ x ∷ xs) e = absurd (omega (arith, eqb-true (suc (length xs)) 0 (and_right (eqb b 48) (eqb (suc (length xs)) 0) e)))

-- by the word's sign
below_back : (bs : List ℕ) (z : ℤ) → cond (is_count bs) (good (negsuc (spelled 0 bs - 1))) bad ≡ good z → written z ≡ 45 ∷ bs
unfolding written
below_back bs z e =
    by_cases (is_count bs)
    (λ c.
    let same : good (negsuc (spelled 0 bs - 1)) ≡ good z = rw c at e in
    let number : negsuc (spelled 0 bs - 1) ≡ z = cc in
    let above : suc (spelled 0 bs - 1) ≡ spelled 0 bs = omega (arith, count_above bs c) in
    rw (← number, above, count_back bs c) refl)
    (λ c. let same : bad ≡ good z = rw c at e in absurd (let o : ◌≡◌ {A = ℕ} 0 1 = cc in omega arith))

plain_forth : (w : List ℕ) (z : ℤ) → cond (is_zero w || is_count w) (good (pos (spelled 0 w))) bad ≡ good z → written z ≡ w
unfolding written
plain_forth w z e =
    by_cases (is_zero w)
    (λ n.
    let same : good (pos (spelled 0 w)) ≡ good z = rw n at e in
    let number : pos (spelled 0 w) ≡ z = cc in
    rw (← number) (zero_back w n))
    (λ n.
    by_cases (is_count w)
    (λ c.
    let same : good (pos (spelled 0 w)) ≡ good z = rw (n, c) at e in
    let number : pos (spelled 0 w) ≡ z = cc in
    rw (← number) (count_back w c))
    (λ c. let same : bad ≡ good z = rw (n, c) at e in absurd (let o : ◌≡◌ {A = ℕ} 0 1 = cc in omega arith)))

pub write_back : (w : List ℕ) (z : ℤ) → number w ≡ good z → written z ≡ w
unfolding number
write_back [] z e = absurd (let o : ◌≡◌ {A = ℕ} 0 1 = cc in omega arith)
write_back (b ∷ bs) z e =
    by_cases (eqb b 45) (λ m. rw (eqb-true b 45 m) (below_back bs z (rw m at e))) (λ m. plain_forth (b ∷ bs) z (rw m at e))
