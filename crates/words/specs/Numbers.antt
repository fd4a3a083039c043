-- The number that a word means: 45 is a minus, 48 to 57 are the digits.
use Rattle.std.specs.Prelude.{Bool, true, false, cond, ◌&&◌, ◌||◌, List, [], ◌∷◌, ℕ, ◌+◌, ◌*◌, ◌-◌, eqb, leb, ℤ, pos, negsuc, length, Option, Some, None}

unfoldable pub is_digit : ℕ → Bool
is_digit b = leb 48 b && leb b 57

unfoldable pub all_digits : List ℕ → Bool
all_digits [] = true
all_digits (b ∷ bs) = is_digit b && all_digits bs

-- the number that digits spell after some that spell `so_far`
unfoldable pub spelled : ℕ → List ℕ → ℕ
spelled so_far [] = so_far
spelled so_far (b ∷ bs) = spelled (10 * so_far + (b - 48)) bs

-- a word's meaning
pub data Word : Type 0 where
  good : ℤ → Word
  bad : Word

unfoldable pub is_first_digit : ℕ → Bool
is_first_digit b = leb 49 b && leb b 57

-- 1 to 9 digits, no leading zero: a digit other than 0, and at most eight after it
unfoldable pub is_count : List ℕ → Bool
is_count [] = false
is_count (b ∷ bs) = is_first_digit b && (leb (length bs) 8 && all_digits bs)

-- the digit 0 alone
unfoldable pub is_zero : List ℕ → Bool
is_zero [] = false
is_zero (b ∷ bs) = eqb b 48 && eqb (length bs) 0

-- a minus, and no zero after it; or no minus
unfoldable pub number : List ℕ → Word
number [] = bad
number (b ∷ bs) =
    cond (eqb b 45)
    (cond (is_count bs) (good (negsuc (spelled 0 bs - 1))) bad)
    (cond (is_zero (b ∷ bs) || is_count (b ∷ bs)) (good (pos (spelled 0 (b ∷ bs)))) bad)

-- a meaning as the code gives it
unfoldable pub number_in : Word → Option ℤ
number_in (good z) = Some z
number_in bad = None

-- what digits spell after some that spell `so_far`; none where one of them is no digit
unfoldable pub spelled_in : ℕ → List ℕ → Option ℕ
spelled_in so_far l = cond (all_digits l) (Some (spelled so_far l)) None

-- the number of 1 to 9 digits; none where a list is no such number
unfoldable pub count_in : List ℕ → Option ℕ
count_in l = cond (is_count l) (Some (spelled 0 l)) None
