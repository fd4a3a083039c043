-- A period's weather: the numbers of a text before its first bad word, seven for each day.
use Rattle.std.specs.Prelude.{cond, not, List, Result, Ok, Err, ◌≡◌, ℕ, ◌/◌, ◌%◌, eqb, ltb, ℤ, length}
use Rattle.std.proofs.lemmas.List.Edits.{sets}
use Rattle.lines.specs.Reading.{Reading, reading}
use Rattle.season.specs.declared.reading.WeatherError.{WeatherError}
use Rattle.season.specs.declared.reading.WeatherError.TheVariants.{BadWord, CutOff, TooMany}

-- so many numbers, where the list holds `room`: a day that is cut off is told before a list that is too short
unfoldable pub days_in : ℕ → ℕ → Result ℕ WeatherError
days_in n room = cond (not (eqb (n % 7) 0)) (Err (CutOff n)) (cond (ltb room n) (Err (TooMany n)) (Ok (n / 7)))

-- a bad word is told before them both
unfoldable pub weather_in : Reading → ℕ → Result ℕ WeatherError
weather_in r room = let n = length r.numbers in cond (not r.whole) (Err (BadWord n)) (days_in n room)

-- the numbers stand at the front of the list, cut at its end (`sets` past the end changes nothing), and the others are as lent
pub record ReadDays (text : List ℕ) (before after : List ℤ) (r : Result ℕ WeatherError) : Type 0 where
  pub answer : r ≡ weather_in (reading text) (length before)
  pub numbers : after ≡ sets before 0 (reading text).numbers
