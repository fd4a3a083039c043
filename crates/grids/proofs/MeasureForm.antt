-- The paper's form of a measure, both ways: at most 20 bytes, a minus or none, digits, and nothing or a point and digits after them. So a measure's bytes are
-- a number's.
use mathlib.Core.Bool.{true, ◌&&◌, true≢false}
use mathlib.Core.List.{List, [], ◌∷◌, ◌++◌, append-nil}
use mathlib.Core.Path.{◌≡◌, refl, sym, ap}
use Prim.Native.Nat.{ℕ, ◌≤◌}
use native.Mathlib.Omega.{arith}
use lib.Dec.{eqb, leb}
use lib.ListN.{length}
use borrow.Author.Tests.{le-leb, leb-true, eqb-true, ne_eqb}
use Rattle.theory.proofs.Cases.{by_cases, and_left, and_right, and_both}
use Rattle.words.specs.Numbers.{is_digit, all_digits}
use Rattle.words.proofs.NumberLaws.{digit_low, digit_high}
use Rattle.words.proofs.SolidLaws.{Each, last, next, each_then, Figure, figure}
use Rattle.grids.specs.Measures.{most_characters, is_digits, goes_on, is_unsigned, without_minus, is_measure}

pub data Sign : List ℕ → Type 0 where
  plain : Sign []
  minus : Sign (45 ∷ [])

pub data Fraction : List ℕ → Type 0 where
  none : Fraction []
  point : {ds : List ℕ} → is_digits ds ≡ true → Fraction (46 ∷ ds)

pub record Form (w : List ℕ) : Type 0 where
  pub sign : List ℕ
  pub whole : List ℕ
  pub fraction : List ℕ
  pub parts : w ≡ sign ++ (whole ++ fraction)
  pub short : length w ≤ most_characters
  pub signed : Sign sign
  pub digits : is_digits whole ≡ true
  pub decimals : Fraction fraction

-- ---- from the tests to the form: after the first digit, digits that may be none, and the fraction
record Rest (w : List ℕ) : Type 0 where
  whole : List ℕ
  fraction : List ℕ
  parts : w ≡ whole ++ fraction
  digits : all_digits whole ≡ true
  decimals : Fraction fraction

rest : (w : List ℕ) → goes_on w ≡ true → Rest w
unfolding goes_on all_digits
rest [] e = record { whole = []; fraction = []; parts = refl; digits = refl; decimals = none }
rest (b ∷ bs) e =
    by_cases (eqb b 46)
    (λ p. record { whole = []; fraction = 46 ∷ bs; parts = rw (eqb-true b 46 p) refl; digits = refl; decimals = point (rw p at e) })
    (λ p.
    let both : (is_digit b && goes_on bs) ≡ true = rw p at e in
    let r = rest bs (and_right (is_digit b) (goes_on bs) both) in
    record {
      whole = b ∷ r.whole;
      fraction = r.fraction;
      parts = ap (λ (l : List ℕ). b ∷ l) r.parts;
      digits = and_both (is_digit b) (all_digits r.whole) (and_left (is_digit b) (goes_on bs) both) r.digits;
      decimals = r.decimals;
    })

module _ (w : List ℕ) (short : length w ≤ most_characters) where
  after_sign : (sign l : List ℕ) → Sign sign → w ≡ sign ++ l → is_unsigned l ≡ true → Form w
  unfolding is_unsigned is_digits
  after_sign sign [] s e u = absurd (true≢false (sym u))
  after_sign sign (b ∷ bs) s e u =
      let r = rest bs (and_right (is_digit b) (goes_on bs) u) in
      record {
        sign = sign;
        whole = b ∷ r.whole;
        fraction = r.fraction;
        parts = rw (← r.parts) e;
        short = short;
        signed = s;
        digits = and_both (is_digit b) (all_digits r.whole) (and_left (is_digit b) (goes_on bs) u) r.digits;
        decimals = r.decimals;
      }

by_sign : (w : List ℕ) → length w ≤ most_characters → is_unsigned (without_minus w) ≡ true → Form w
unfolding without_minus
by_sign [] h u = after_sign [] h [] [] plain refl u
by_sign (b ∷ bs) h u =
    by_cases (eqb b 45) (λ m. after_sign (b ∷ bs) h (45 ∷ []) bs minus (rw (eqb-true b 45 m) refl) (rw m at u))
    (λ m. after_sign (b ∷ bs) h [] (b ∷ bs) plain refl (rw m at u))

pub measure_form : (w : List ℕ) → is_measure w ≡ true → Form w
unfolding is_measure
measure_form w e =
    let few = leb (length w) most_characters in
    by_sign w (leb-true (length w) most_characters (and_left few (is_unsigned (without_minus w)) e)) (and_right few (is_unsigned (without_minus w)) e)

-- ---- and back
module _ (fraction : List ℕ) (f : Fraction fraction) where
  goes_on_lem : (whole : List ℕ) → all_digits whole ≡ true → goes_on (whole ++ fraction) ≡ true
  unfolding goes_on all_digits
  goes_on_lem [] d = ended f
    where
      ended : {l : List ℕ} → Fraction l → goes_on l ≡ true
      ended none = refl
      ended (point ds) = ds
  goes_on_lem (b ∷ bs) d =
      let digit = and_left (is_digit b) (all_digits bs) d in
      rw (ne_eqb b 46 (λ e. omega (arith, digit_low b digit)), digit) (goes_on_lem bs (and_right (is_digit b) (all_digits bs) d))

  unsigned : (b : ℕ) (bs : List ℕ) → is_digits (b ∷ bs) ≡ true → is_unsigned (b ∷ (bs ++ fraction)) ≡ true
  unfolding is_digits is_unsigned
  unsigned b bs d =
      and_both (is_digit b) (goes_on (bs ++ fraction)) (and_left (is_digit b) (all_digits bs) d) (goes_on_lem bs (and_right (is_digit b) (all_digits bs) d))

  sign_back : {sign : List ℕ} (whole : List ℕ) → Sign sign → is_digits whole ≡ true → is_unsigned (without_minus (sign ++ (whole ++ fraction))) ≡ true
  unfolding is_digits without_minus
  sign_back [] s d = absurd (true≢false (sym d))
  sign_back (b ∷ bs) minus d = unsigned b bs d
  sign_back (b ∷ bs) plain d =
      rw (ne_eqb b 45 (λ e. omega (arith, digit_low b (and_left (is_digit b) (all_digits bs) d)))) (unsigned b bs d)

pub form_measure : {w : List ℕ} → Form w → is_measure w ≡ true
unfolding is_measure
form_measure {w} f = rw (le-leb (length w) most_characters f.short, f.parts) (sign_back f.fraction f.decimals f.whole f.signed f.digits)

-- ---- its bytes
digit : (b : ℕ) → is_digit b ≡ true → Figure b
digit b d = figure b (omega (arith, digit_low b d)) (digit_high b d)

digits_each : (ds : List ℕ) → is_digits ds ≡ true → Each Figure ds
unfolding is_digits all_digits
digits_each [] e = absurd (true≢false (sym e))
digits_each (b ∷ []) e = last (digit b (and_left (is_digit b) true e))
digits_each (b ∷ x ∷ xs) e = next (digit b (and_left (is_digit b) (all_digits (x ∷ xs)) e)) (digits_each (x ∷ xs) (and_right (is_digit b) (all_digits (x ∷ xs)) e))

with_fraction : {fraction : List ℕ} (whole : List ℕ) → Each Figure whole → Fraction fraction → Each Figure (whole ++ fraction)
with_fraction whole each none = rw (append-nil whole) each
with_fraction whole each (point {ds} d) = each_then each (next (figure 46 (omega arith) (omega arith)) (digits_each ds d))

with_sign : {sign w : List ℕ} → Sign sign → Each Figure w → Each Figure (sign ++ w)
with_sign plain each = each
with_sign minus each = next (figure 45 (omega arith) (omega arith)) each

pub measure_figures : (w : List ℕ) → is_measure w ≡ true → Each Figure w
measure_figures w e =
    let f = measure_form w e in
    rw f.parts (with_sign f.signed (with_fraction f.whole (digits_each f.whole f.digits) f.decimals))
