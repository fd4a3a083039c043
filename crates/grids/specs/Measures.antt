-- A corner or a cell size, which is kept as text: 1 to 20 characters, digits with a leading minus or one inner point. 45 is a minus, 46 a point.
use Rattle.std.specs.Prelude.{Bool, true, false, cond, ◌&&◌, List, [], ◌∷◌, ℕ, eqb, leb, length}
use Rattle.words.specs.Numbers.{is_digit, all_digits}

abbrev pub most_characters : ℕ
most_characters = 20

-- digits, at least one
unfoldable pub is_digits : List ℕ → Bool
is_digits [] = false
is_digits (b ∷ bs) = is_digit b && all_digits bs

-- after a digit: digits to the end, or to a point with digits after it
unfoldable pub goes_on : List ℕ → Bool
goes_on [] = true
goes_on (b ∷ bs) = cond (eqb b 46) (is_digits bs) (is_digit b && goes_on bs)

unfoldable pub is_unsigned : List ℕ → Bool
is_unsigned [] = false
is_unsigned (b ∷ bs) = is_digit b && goes_on bs

unfoldable pub without_minus : List ℕ → List ℕ
without_minus [] = []
without_minus (b ∷ bs) = cond (eqb b 45) bs (b ∷ bs)

unfoldable pub is_measure : List ℕ → Bool
is_measure w = leb (length w) most_characters && is_unsigned (without_minus w)

-- a word where a measure belongs: the measure, or no text
unfoldable pub measured : List ℕ → List ℕ
measured w = cond (is_measure w) w []
