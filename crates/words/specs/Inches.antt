-- A depth as it is told: in inches with four decimals, one unit being 0.0001 inch. 46 is a point, 48 the digit 0.
use Rattle.std.specs.Prelude.{List, [], ◌∷◌, ◌++◌, ℕ, ◌+◌, ◌/◌, ◌%◌}
use Rattle.words.specs.Digits.{digits}

-- the last four digits of a number, zeros among them
unfoldable pub four_digits : ℕ → List ℕ
four_digits n = (48 + n / 1000 % 10) ∷ (48 + n / 100 % 10) ∷ (48 + n / 10 % 10) ∷ (48 + n % 10) ∷ []

-- whole inches, a point, and the ten-thousandths left over
unfoldable pub inches : ℕ → List ℕ
inches units = digits (units / 10000) ++ 46 ∷ four_digits (units % 10000)

-- the most bytes of a depth of 64 bits
abbrev pub most_inches : ℕ
most_inches = 25
