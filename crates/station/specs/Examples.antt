-- Worked examples: estimates, readings outside their limits, and lines of another form.
use Rattle.std.specs.Prelude.{◌≡◌, []}
use Rattle.words.specs.Digits.{bytes}
use Rattle.station.specs.Answers.{answered}

pub record Examples : Type 0 where
  -- the last line needs no line feed
  pub estimates : answered (bytes "1 200 500 60\n1 6 77 60\n2 200 500\n2 -40 0") ≡ bytes "1608\n25\n1935\n0\n"
  pub outside : answered (bytes "1 601 500 60\n2 200 -1\n1 200 500 101\n2 -600 1000\n") ≡ bytes "refused 13 at 1\nrefused 13 at 2\nrefused 13 at 3\n0\n"
  -- no estimate, a humidity for Jensen-Haise, none for Turc, a negative estimate, an empty line, a point; and blanks that do no harm
  pub other_forms :
      answered (bytes "3 200 500\n2 200 500 60\n1 200 500\n-1 200 500 60\n\n1 20.0 500 60\n 2  200 500 \n")
      ≡ bytes "refused 11 at 1\nrefused 11 at 2\nrefused 11 at 3\nrefused 11 at 4\nrefused 11 at 5\nrefused 11 at 6\n1935\n"
  pub no_lines : answered [] ≡ []
