-- A depth in inches. The digits before the point spell the whole inches and the four after it the ten-thousandths left over, so that all of them, without
-- the point, spell the depth in units.
use mathlib.Core.Path.{◌≡◌, refl, sym, ◌∙◌}
use mathlib.Core.List.{List, [], ◌∷◌, ◌++◌}
use Prim.Native.Nat.{ℕ, zero, suc, ◌+◌, ◌*◌, ◌-◌, ◌/◌, ◌%◌, ◌^◌, ◌≤◌, ◌<◌}
use native.Mathlib.Nat.{le_refl, div-div-eq-div-mul}
use native.Mathlib.Omega.{arith}
use lib.ListN.{length, length-append}
use lib.Seq.{append_snoc}
use Rattle.theory.proofs.Cases.{below_or_not}
use Rattle.words.specs.Digits.{digits}
use Rattle.words.specs.Numbers.{spelled}
use Rattle.words.specs.Writing.{farthest, Put, Wrote}
use Rattle.words.proofs.DigitLaws.{digits_one, digits_more, digits_short}
use Rattle.words.proofs.WritingLaws.{put_then, put_as}
use Rattle.words.specs.Inches.{four_digits, inches, most_inches}

spelled_append : (xs ys : List ℕ) (m : ℕ) → spelled m (xs ++ ys) ≡ spelled (spelled m xs) ys
unfolding spelled
spelled_append [] ys m = refl
spelled_append (x ∷ xs) ys m = spelled_append xs ys (10 * m + (x - 48))

spelled_below : (most n : ℕ) → n ≤ most → spelled 0 (digits n) ≡ n
unfolding spelled
spelled_below zero n h = rw (digits_one n (omega arith)) (omega arith)
spelled_below (suc most) n h =
    below_or_not n 10 (λ one. rw (digits_one n one) (omega arith))
    (λ more.
    rw (digits_more n more, spelled_append (digits (n / 10)) ((48 + n % 10) ∷ []) 0, spelled_below most (n / 10) (omega arith)) (omega arith))

-- digit after digit, from a number down to its thousandth part
by_tenths :
    (m n a b c : ℕ) → a ≡ n / 10 → b ≡ a / 10 → c ≡ b / 10 → c < 10
    → spelled m ((48 + c % 10) ∷ (48 + b % 10) ∷ (48 + a % 10) ∷ (48 + n % 10) ∷ []) ≡ 10000 * m + n
unfolding spelled
by_tenths m n a b c ea eb ec h = omega arith

four_spelled : (m n : ℕ) → n < 10000 → spelled m (four_digits n) ≡ 10000 * m + n
unfolding four_digits
four_spelled m n h =
    by_tenths m n (n / 10) (n / 100) (n / 1000) refl (sym (div-div-eq-div-mul n 10 10)) (sym (div-div-eq-div-mul n 100 10)) (omega arith)

-- before the point: the whole inches
pub whole_inches : (units : ℕ) → spelled 0 (digits (units / 10000)) ≡ units / 10000
whole_inches units = spelled_below (units / 10000) (units / 10000) (le_refl (units / 10000))

-- after it: four digits, which spell the ten-thousandths left over
pub four_decimals : (units : ℕ) → length (four_digits (units % 10000)) ≡ 4
unfolding four_digits
four_decimals units = refl

pub decimals_spelled : (units : ℕ) → spelled 0 (four_digits (units % 10000)) ≡ units % 10000
decimals_spelled units = four_spelled 0 (units % 10000) (omega arith) ∙ omega arith

-- and all of them: the depth
pub inches_spelled : (units : ℕ) → spelled 0 (digits (units / 10000) ++ four_digits (units % 10000)) ≡ units
inches_spelled units =
    spelled_append (digits (units / 10000)) (four_digits (units % 10000)) 0
    ∙ rw (whole_inches units) (four_spelled (units / 10000) (units % 10000) (omega arith) ∙ omega arith)

-- what is put of a digit, of four, and of a depth
digit_put : {at r : ℕ} {l l' : List ℕ} (n : ℕ) → n < 10 → Put at (digits n) l l' r → Put at ((48 + n) ∷ []) l l' r
digit_put n h w = put_as _ w (digits_one n h)

pub four_put :
    {at a b c r : ℕ} {l l₁ l₂ l₃ l₄ : List ℕ} (n : ℕ) → length l ≤ farthest
    → Put at (digits (n / 1000 % 10)) l l₁ a → Put a (digits (n / 100 % 10)) l₁ l₂ b → Put b (digits (n / 10 % 10)) l₂ l₃ c → Put c (digits (n % 10)) l₃ l₄ r
    → Put at (four_digits n) l l₄ r
unfolding four_digits
four_put n long w x y z =
    put_then long
    (put_then long (put_then long (digit_put _ (omega arith) w) (digit_put _ (omega arith) x)) (digit_put _ (omega arith) y))
    (digit_put _ (omega arith) z)

pub inches_put :
    {at m r : ℕ} {l l₁ l₂ : List ℕ} (units : ℕ) → length l ≤ farthest → units < 2 ^ 64
    → Put at (digits (units / 10000) ++ 46 ∷ []) l l₁ m → Put m (four_digits (units % 10000)) l₁ l₂ r
    → Wrote most_inches at (inches units) l l₂ r
unfolding inches four_digits
inches_put units long fits w v =
    record {
      put = put_as _ (put_then long w v) (append_snoc (digits (units / 10000)) 46 (four_digits (units % 10000)));
      short = omega (arith, digits_short (units / 10000) (omega arith), length-append (digits (units / 10000)) (46 ∷ four_digits (units % 10000)));
    }
