-- What is printed: the three kinds of line.
use Rattle.std.specs.Prelude.{List, [], ◌∷◌, ◌++◌, ℕ}
use Rattle.words.specs.Digits.{digits, bytes}
use Rattle.paper.specs.Day.{Totals}
use Rattle.paper.specs.Refusals.{Refusal, number_of, place_of}

-- numbers parted by single spaces, and a line feed
unfoldable pub row : ℕ → List ℕ → List ℕ
row n [] = digits n ++ 10 ∷ []
row n (m ∷ ms) = digits n ++ 32 ∷ row m ms

-- a day's line: its serial and the seven totals
unfoldable pub day_line : ℕ → Totals → List ℕ
day_line serial t =
    row serial
    (t.gross
    ∷ t.intercepted
    ∷ t.evapotranspired
    ∷ t.recharged
    ∷ t.rejected
    ∷ t.gone
    ∷ t.stored
    ∷ [])

-- `end` and the count of days
unfoldable pub end_line : ℕ → List ℕ
end_line days = bytes "end " ++ row days []

-- `refused` number `at` place
unfoldable pub refused_line : ℕ → ℕ → List ℕ
refused_line number place = bytes "refused " ++ (digits number ++ (bytes " at " ++ row place []))

unfoldable pub refusal : Refusal → List ℕ
refusal why = refused_line (number_of why) (place_of why)
