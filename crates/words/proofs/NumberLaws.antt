-- A word's number: the tests of its bytes, one after another, decide the paper's form, and nine digits spell less than a thousand million.
use mathlib.Core.Path.{◌≡◌, refl, ap, ◌∙◌}
use mathlib.Core.Bool.{Bool, true, false, cond, ◌&&◌, ◌||◌}
use mathlib.Core.List.{List, [], ◌∷◌}
use Prim.Native.Nat.{ℕ, zero, suc, ◌+◌, ◌*◌, ◌-◌, ◌^◌, ◌≤◌, ◌<◌}
use native.Mathlib.Nat.{not-suc-le-zero, add-zero, add-suc, suc-add, sub_self, pow-suc, pow-le-pow_right}
use native.Mathlib.Numerals.{add-one}
use native.Mathlib.Omega.{arith}
use lib.Dec.{eqb, leb, lit≤}
use lib.IntN.{ℤ, pos, negsuc, ◌-ℤ◌}
use lib.ListN.{length, get_or, drop, drop_of_length-le}
use lib.Seq.{drop-cons}
use borrow.Author.Tests.{lt-ltb, le-leb, lt-leb, eq-eqb, ne_eqb, leb-true, eqb-true}
use Rattle.theory.proofs.Cases.{by_cases, below_or_not, and_left, and_right}
use Rattle.words.specs.Numbers.{is_digit, all_digits, spelled, Word, good, bad, is_first_digit, is_count, is_zero, number, number_in, spelled_in, count_in}
use Rattle.std.specs.Prelude.{Some, None}
use mir.Syntax.{w32}
use mir.Val.{SFits as FitsSigned, to_z, of_z}
use mir.Facts.{to_z-of_z, to_z_pos}

pub digit_low : (b : ℕ) → is_digit b ≡ true → 48 ≤ b
unfolding is_digit
digit_low b d = leb-true 48 b (and_left (leb 48 b) (leb b 57) d)

pub digit_high : (b : ℕ) → is_digit b ≡ true → b ≤ 57
unfolding is_digit
digit_high b d = leb-true b 57 (and_right (leb 48 b) (leb b 57) d)

-- a byte's tests, where it is a digit above 0
pub record First (b : ℕ) : Type 0 where
  pub low : 49 ≤ b
  pub minus? : eqb b 45 ≡ false
  pub zero? : eqb b 48 ≡ false
  pub first? : is_first_digit b ≡ true

pub first_tests : (b : ℕ) → 49 ≤ b → b ≤ 57 → First b
unfolding is_first_digit
first_tests b low high =
    record {
      low = low;
      minus? = ne_eqb b 45 (λ e. omega arith);
      zero? = ne_eqb b 48 (λ e. omega arith);
      first? = simp (le-leb);
    }

-- the first digit is no zero
first_is : (b : ℕ) → (b ≡ 48 → ⊥) → is_first_digit b ≡ is_digit b
unfolding is_first_digit is_digit
first_is b n =
    below_or_not b 48 (λ h. rw (lt-leb 48 b h, lt-leb 49 b (omega arith)) refl)
    (λ h. rw (le-leb 48 b h, le-leb 49 b (omega (arith, n))) refl)

-- digit by digit: the byte at a place goes on with what is spelled, or is no digit
module _ (l : List ℕ) (i n : ℕ) where
  pub spelled_next : i < length l → is_digit (get_or l i 0) ≡ true → spelled_in n (drop i l) ≡ spelled_in (10 * n + (get_or l i 0 - 48)) (drop (i + 1) l)
  unfolding spelled_in all_digits spelled
  spelled_next h e = rw (drop-cons l i 0 h, e, add-one i) refl

  pub spelled_stop : i < length l → is_digit (get_or l i 0) ≡ false → spelled_in n (drop i l) ≡ None
  unfolding spelled_in all_digits spelled
  spelled_stop h e = rw (drop-cons l i 0 h, e) refl

  pub spelled_end : length l ≤ i → spelled_in n (drop i l) ≡ Some n
  unfolding spelled_in all_digits spelled
  spelled_end h = rw (drop_of_length-le l {i = i} h) refl

pub eight_digits : (n k : ℕ) → k ≤ 8 → n < 10 ^ k → n < 100000000
eight_digits n k h less = let p : 10 ^ k ≤ 10 ^ 8 = pow-le-pow_right {n = 10} (lit≤ tt) h in omega arith

pub no_digit : (i : ℕ) → 0 < 10 ^ (i - i)
no_digit i = rw (sub_self i) (omega arith)

pub next_digit : (n d k k' : ℕ) → k' ≡ suc k → d ≤ 9 → n < 10 ^ k → 10 * n + d < 10 ^ k'
next_digit n d k k' e h less = rw e (omega (arith, pow-suc 10 k))

-- the tests of a number without a sign, which begins with a byte
pub count_nothing : (w : List ℕ) → length w ≡ 0 → None ≡ count_in w
unfolding count_in is_count
count_nothing [] h = refl
count_nothing (b ∷ bs) h = absurd (omega arith)

module _ (w : List ℕ) (b : ℕ) (bs : List ℕ) (e : w ≡ b ∷ bs) where
  pub count_nought : b ≡ 48 → None ≡ count_in w
  unfolding count_in is_count is_first_digit
  count_nought h = rw (e, h) refl

  pub count_long : 9 ≤ length bs → None ≡ count_in w
  unfolding count_in is_count
  count_long h = rw (e, lt-leb (length bs) 8 (omega arith)) (by_cases (is_first_digit b) (λ d. rw d refl) (λ d. rw d refl))

  pub count_spelled : length bs ≤ 8 → (b ≡ 48 → ⊥) → spelled_in 0 w ≡ count_in w
  unfolding count_in is_count spelled_in all_digits
  count_spelled short n = rw (e, first_is b n, le-leb (length bs) 8 short) refl

-- a number that is spelled is above 0
more_spelled : (ds : List ℕ) (m : ℕ) → 1 ≤ m → 1 ≤ spelled m ds
unfolding spelled
more_spelled [] m h = h
more_spelled (b ∷ ds) m h = more_spelled ds (10 * m + (b - 48)) (omega arith)

pub count_above : (ds : List ℕ) → is_count ds ≡ true → 1 ≤ spelled 0 ds
unfolding is_count spelled is_first_digit
count_above [] e = absurd (let z : ◌≡◌ {A = Bool} false true = e in let o : ◌≡◌ {A = ℕ} 0 1 = cc in omega arith)
count_above (b ∷ bs) e =
    let low : 49 ≤ b = leb-true 49 b (and_left (leb 49 b) (leb b 57) (and_left (leb 49 b && leb b 57) (leb (length bs) 8 && all_digits bs) e)) in
    more_spelled bs (10 * 0 + (b - 48)) (omega arith)

-- nine digits spell less than a thousand million
spelled_below : (ds : List ℕ) (m k : ℕ) → all_digits ds ≡ true → m < 10 ^ k → spelled m ds < 10 ^ (k + length ds)
unfolding all_digits spelled
spelled_below [] m k e h = rw (add-zero k) h
spelled_below (b ∷ ds) m k e h =
    let high = digit_high b (and_left (is_digit b) (all_digits ds) e) in
    rw (add-suc k (length ds), ← suc-add k (length ds))
    (spelled_below ds (10 * m + (b - 48)) (suc k) (and_right (is_digit b) (all_digits ds) e) (omega (arith, pow-suc 10 k)))

count_below : (ds : List ℕ) → is_count ds ≡ true → spelled 0 ds < 1000000000
unfolding is_count spelled is_first_digit
count_below [] e = omega arith
count_below (b ∷ bs) e =
    let first = and_left (leb 49 b && leb b 57) (leb (length bs) 8 && all_digits bs) e in
    let rest = and_right (leb 49 b && leb b 57) (leb (length bs) 8 && all_digits bs) e in
    let few : length bs ≤ 8 = leb-true (length bs) 8 (and_left (leb (length bs) 8) (all_digits bs) rest) in
    let high : b ≤ 57 = leb-true b 57 (and_right (leb 49 b) (leb b 57) first) in
    let p : 10 ^ (1 + length bs) ≤ 10 ^ 9 = pow-le-pow_right {n = 10} (lit≤ tt) {i = 1 + length bs} {j = 9} (omega arith) in
    omega (arith, spelled_below bs (10 * 0 + (b - 48)) 1 (and_right (leb (length bs) 8) (all_digits bs) rest) (omega arith))

-- so a word's number is at most nine digits away from zero
unfoldable pub NineDigits : ℤ → Type 0
NineDigits (pos n) = n < 1000000000
NineDigits (negsuc m) = suc m < 1000000000

unfoldable pub Small : Word → Type 0
Small (good z) = NineDigits z
Small bad = Unit {0}

small_below : (bs : List ℕ) → Small (cond (is_count bs) (good (negsuc (spelled 0 bs - 1))) bad)
unfolding Small NineDigits
small_below bs = by_cases (is_count bs) (λ e. rw e (omega (arith, count_below bs e))) (λ e. rw e tt)

small_zero : (w : List ℕ) → is_zero w ≡ true → spelled 0 w < 1000000000
unfolding is_zero spelled
small_zero [] e = omega arith
small_zero (b ∷ []) e = rw (eqb-true b 48 (and_left (eqb b 48) (eqb 0 0) e)) (omega arith)
small_zero (b ∷ x ∷ xs) e = absurd (omega (arith, eqb-true (suc (length xs)) 0 (and_right (eqb b 48) (eqb (suc (length xs)) 0) e)))

small_plain : (w : List ℕ) → Small (cond (is_zero w || is_count w) (good (pos (spelled 0 w))) bad)
unfolding Small NineDigits
small_plain w =
    by_cases (is_zero w) (λ e. rw e (small_zero w e)) (λ e. by_cases (is_count w) (λ d. rw (e, d) (count_below w d)) (λ d. rw (e, d) tt))

pub number_small : (w : List ℕ) → Small (number w)
unfolding Small number
number_small [] = tt
number_small (b ∷ bs) = by_cases (eqb b 45) (λ e. rw e (small_below bs)) (λ e. rw e (small_plain (b ∷ bs)))

-- what digits count, if anything, is above 0 and has nine digits
counted : (ds : List ℕ) (n : ℕ) → Some n ≡ count_in ds → (is_count ds ≡ true) × (spelled 0 ds ≡ n)
unfolding count_in
counted ds n e = by_cases (is_count ds) (λ t. (t, let s : Some n ≡ Some (spelled 0 ds) = rw t at e in cc)) (λ f. absurd (no (rw f at e)))
  where
    no : Some n ≡ None → ⊥
    no z = absurd (let o : ◌≡◌ {A = ℕ} 0 1 = cc in omega arith)

uncounted : (ds : List ℕ) → None ≡ count_in ds → is_count ds ≡ false
unfolding count_in
uncounted ds e = by_cases (is_count ds) (λ t. absurd (no (rw t at e))) (λ f. f)
  where
    no : None ≡ Some (spelled 0 ds) → ⊥
    no z = absurd (let o : ◌≡◌ {A = ℕ} 0 1 = cc in omega arith)

module _ (ds : List ℕ) (n : ℕ) (e : Some n ≡ count_in ds) where
  pub count_small : n < 1000000000
  count_small = let is = counted ds n e in omega (arith, count_below ds is.0, is.1)

  pub count_some : 1 ≤ n
  count_some = let is = counted ds n e in omega (arith, count_above ds is.0, is.1)

  pub count_fits : FitsSigned w32 (pos n)
  count_fits = record { sfits = omega (arith, count_small) }

  pub count_read : to_z w32 n ≡ pos n
  count_read = to_z_pos w32 (omega (arith, count_small))

  less : pos 0 -ℤ pos n ≡ negsuc (n - 1)
  less = below n count_some
    where
      below : (m : ℕ) → 1 ≤ m → pos 0 -ℤ pos m ≡ negsuc (m - 1)
      below zero h = absurd (not-suc-le-zero h)
      below (suc k) h = rw (lt-ltb 0 (suc k) (omega arith)) (ap negsuc (omega arith))

  pub minus_fits : FitsSigned w32 (pos 0 -ℤ to_z w32 n)
  minus_fits = rw (count_read, less) (record { sfits = omega (arith, count_small) })

  minus_read : to_z w32 (of_z w32 (pos 0 -ℤ to_z w32 n)) ≡ negsuc (n - 1)
  minus_read = to_z-of_z minus_fits ∙ rw count_read less

-- a word's number, by its first byte and what its digits count
pub nothing_means : (w : List ℕ) → length w ≡ 0 → None ≡ number_in (number w)
unfolding number number_in
nothing_means [] h = refl
nothing_means (b ∷ bs) h = absurd (omega arith)

module _ (w : List ℕ) (b : ℕ) (bs : List ℕ) (e : w ≡ b ∷ bs) where
  pub zero_means : eqb b 48 && eqb (length bs) 0 ≡ true → Some (pos 0) ≡ number_in (number w)
  unfolding number number_in is_zero spelled
  zero_means z = rw e (alone bs (and_right (eqb b 48) (eqb (length bs) 0) z))
    where
      is : b ≡ 48
      is = eqb-true b 48 (and_left (eqb b 48) (eqb (length bs) 0) z)

      alone : (ds : List ℕ) → eqb (length ds) 0 ≡ true → Some (pos 0) ≡ number_in (number (b ∷ ds))
      alone [] t = rw is refl
      alone (d ∷ ds) t = absurd (omega (arith, eqb-true (suc (length ds)) 0 t))

  module _ (m : b ≡ 45) where
    pub minus_means : (n : ℕ) (k : Some n ≡ count_in bs) → Some (to_z w32 (of_z w32 (pos 0 -ℤ to_z w32 n))) ≡ number_in (number w)
    unfolding number number_in
    minus_means n k =
        let is = counted bs n k in
        rw (e, minus_read bs n k, eq-eqb b 45 m, is.0, is.1) refl

    pub minus_means_none : None ≡ count_in bs → None ≡ number_in (number w)
    unfolding number number_in
    minus_means_none k = rw (e, eq-eqb b 45 m, uncounted bs k) refl

  module _ (m : b ≡ 45 → ⊥) where
    pub plain_means : (n : ℕ) → Some n ≡ count_in w → Some (to_z w32 n) ≡ number_in (number w)
    unfolding number number_in
    plain_means n k =
        let is = counted (b ∷ bs) n (rw e at k) in
        rw (count_read w n k, e, ne_eqb b 45 m, is.0)
        (by_cases (is_zero (b ∷ bs)) (λ z. rw (z, is.1) refl) (λ z. rw (z, is.1) refl))

    pub plain_means_none : is_zero (b ∷ bs) ≡ false → None ≡ count_in w → None ≡ number_in (number w)
    unfolding number number_in
    plain_means_none z k = rw (e, ne_eqb b 45 m, z, uncounted (b ∷ bs) (rw e at k)) refl
