-- What a depth is as a format: the digits that a format writes of a number are those that are put, and four of them are filled up with zeros.
use mathlib.Core.Path.{◌≡◌, refl, sym, ap, ◌∙◌}
use mathlib.Core.Bool.{false}
use mathlib.Core.List.{[], ◌∷◌, ◌++◌}
use Prim.Native.Nat.{ℕ, ◌+◌, ◌-◌, ◌/◌, ◌%◌, ◌^◌, ◌≤◌, ◌<◌}
use native.Mathlib.Omega.{arith}
use Rattle.std.specs.Fmt.{decimal, styled_decimal, padded_integral, format_spec, char_count}
use Rattle.std.proofs.lemmas.Fmt.{decimal_by_steps}
use Rattle.theory.proofs.Cases.{below_or_not}
use Rattle.words.specs.Digits.{digits}
use Rattle.words.specs.Inches.{four_digits, inches}
use Rattle.words.proofs.DigitLaws.{digits_one, digits_more}

decimal_digits : (n : ℕ) → n < 2 ^ 64 → decimal n ≡ digits n
decimal_digits =
    decimal_by_steps (λ n l. l ≡ digits n) (λ n one. sym (digits_one n one))
    (λ n l more same. ap (λ k. k ++ (48 + n % 10) ∷ []) same ∙ sym (digits_more n more))

two : (n : ℕ) → 10 ≤ n → n < 100 → digits n ≡ (48 + n / 10) ∷ (48 + n % 10) ∷ []
two n more less = rw (digits_more n more, digits_one (n / 10) (omega arith)) refl

three : (n : ℕ) → 100 ≤ n → n < 1000 → digits n ≡ (48 + n / 10 / 10) ∷ (48 + n / 10 % 10) ∷ (48 + n % 10) ∷ []
three n more less = rw (digits_more n (omega arith), two (n / 10) (omega arith) (omega arith)) refl

four : (n : ℕ) → 1000 ≤ n → n < 10000 → digits n ≡ (48 + n / 10 / 10 / 10) ∷ (48 + n / 10 / 10 % 10) ∷ (48 + n / 10 % 10) ∷ (48 + n % 10) ∷ []
four n more less = rw (digits_more n (omega arith), three (n / 10) (omega arith) (omega arith)) refl

four_padded : (n : ℕ) → n < 10000 → padded_integral (format_spec 32 0 4 4 (2 ^ 64 - 1)) false [] (digits n) ≡ four_digits n
unfolding padded_integral char_count four_digits
four_padded n less =
    below_or_not n 10
    (λ one.
    let a : n / 1000 % 10 ≡ 0 = omega arith in let b : n / 100 % 10 ≡ 0 = omega arith in let c : n / 10 % 10 ≡ 0 = omega arith in
    let d : n % 10 ≡ n = omega arith in rw (digits_one n one, a, b, c, d) refl)
    (λ ten.
    below_or_not n 100
    (λ one.
    let a : n / 1000 % 10 ≡ 0 = omega arith in let b : n / 100 % 10 ≡ 0 = omega arith in let c : n / 10 % 10 ≡ n / 10 = omega arith in
    rw (two n ten one, a, b, c) refl)
    (λ hundred.
    below_or_not n 1000
    (λ one.
    let a : n / 1000 % 10 ≡ 0 = omega arith in let b : n / 100 % 10 ≡ n / 10 / 10 = omega arith in rw (three n hundred one, a, b) refl)
    (λ thousand.
    let a : n / 1000 % 10 ≡ n / 10 / 10 / 10 = omega arith in let b : n / 100 % 10 ≡ n / 10 / 10 % 10 = omega arith in
    rw (four n thousand less, a, b) refl)))

-- whole inches, a point, and what is left over in a hole of four places
pub inches_formatted :
    (units : ℕ) → units < 2 ^ 64
    → decimal (units / 10000) ++ 46 ∷ styled_decimal (format_spec 32 0 4 4 (2 ^ 64 - 1)) (units % 10000) ≡ inches units
unfolding inches
inches_formatted units fits =
    rw (decimal_digits (units / 10000) (omega arith), decimal_digits (units % 10000) (omega arith), four_padded (units % 10000) (omega arith)) refl
