-- The input's numbers: those of its words before the first that is none, held as their codes.
use Rattle.std.specs.Prelude.{Bool, true, false, cond, List, [], ◌∷◌, ◌≡◌, ℕ, suc, ◌+◌, ◌-◌, ◌≤◌, ltb, ℤ, pos, negsuc, length, Result, Ok, Err}
use Rattle.std.proofs.lemmas.List.Edits.{sets}
use Rattle.words.specs.Words.{words}
use Rattle.words.specs.Numbers.{Word, good, bad, number}
use Rattle.lines.specs.declared.reading.BadForm.{BadForm}

-- the numbers before the first bad word, and whether there is none
pub record Reading : Type 0 where
  pub numbers : List ℤ
  pub whole : Bool

unfoldable pub and_then : Word → Reading → Reading
and_then (good z) rest = record { numbers = z ∷ rest.numbers; whole = rest.whole }
and_then bad rest = record { numbers = []; whole = false }

unfoldable pub meant : List (List ℕ) → Reading
meant [] = record { numbers = []; whole = true }
meant (w ∷ ws) = and_then (number w) (meant ws)

unfoldable pub reading : List ℕ → Reading
reading text = meant (words text)

-- a longer text is refused before its form: nothing is read of it
abbrev pub most_bytes : ℕ
most_bytes = 65536

unfoldable pub given : List ℕ → Reading
given text = cond (ltb most_bytes (length text)) (record { numbers = []; whole = false }) (reading text)

-- a number where none below zero belongs: -m stands as 1,000,000,000 + m, past every limit, so that its field refuses it
abbrev pub negatives : ℕ
negatives = 1000000000

unfoldable pub code : ℤ → ℕ
code (pos n) = n
code (negsuc m) = negatives + suc m

unfoldable pub codes : List ℤ → List ℕ
codes [] = []
codes (z ∷ zs) = code z ∷ codes zs

-- and back: the number of a code
unfoldable pub signed : ℕ → ℤ
signed c = cond (ltb negatives c) (negsuc (c - (negatives + 1))) (pos c)

-- past every code, where a word is no number
abbrev pub no_number : ℕ
no_number = 2000000000

unfoldable pub code_of : Word → ℕ
code_of (good z) = code z
code_of bad = no_number

-- a number and the blank after it take two bytes, so 65,536 bytes hold at most so many
abbrev pub most_numbers : ℕ
most_numbers = 32768

-- the count of all numbers, or of those before the first bad word
unfoldable pub form_in : Bool → ℕ → Result ℕ BadForm
form_in true n = Ok n
form_in false n = Err (record { 0 = n })

-- the codes of all that was read stand at the front of the lent numbers, which have room for them, and the others are as lent
pub record Read (all : Reading) (before after : List ℕ) (r : Result ℕ BadForm) : Type 0 where
  pub form : r ≡ form_in all.whole (length all.numbers)
  pub numbers : after ≡ sets before 0 (codes all.numbers)
  pub few : length all.numbers ≤ most_numbers
