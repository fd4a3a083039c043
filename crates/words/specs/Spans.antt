-- A word's place in a text, and a line's.
use Rattle.std.specs.Prelude.{Bool, cond, not, List, [], ◌∷◌, ◌≡◌, ℕ, suc, ◌+◌, ◌-◌, ◌≤◌, ◌<◌, eqb, length, take, drop}
use Rattle.words.specs.Words.{is_blank, words, lines_of}
use Rattle.words.specs.declared.spans.Stop.{Stop}
use Rattle.words.specs.declared.spans.Stop.TheVariants.{WordByte, Blank, LineFeed}

abbrev pub part : List ℕ → ℕ → ℕ → List ℕ
part text start end = take (end - start) (drop start text)

-- the bytes at which a search stops
unfoldable pub stops_at : Stop → ℕ → Bool
stops_at WordByte b = not (is_blank b)
stops_at Blank b = is_blank b
stops_at LineFeed b = eqb b 10

-- how many bytes stand before the first of them
unfoldable pub before : Stop → List ℕ → ℕ
before stop [] = 0
before stop (b ∷ bs) = cond (stops_at stop b) 0 (suc (before stop bs))

-- how many blanks stand first, how many other bytes, and how many bytes of a line
abbrev pub blanks : List ℕ → ℕ
blanks l = before WordByte l

abbrev pub run : List ℕ → ℕ
run l = before Blank l

abbrev pub line_run : List ℕ → ℕ
line_run l = before LineFeed l

-- the first word from a place on, after the blanks: there is one where it has a byte, and the next is looked for from its end on
pub record NextWord (text : List ℕ) (from start end : ℕ) : Type 0 where
  pub starts : start ≡ from + blanks (drop from text)
  pub ends : end ≡ start + run (drop start text)
  pub found : start < end → words (drop from text) ≡ part text start end ∷ words (drop end text)
  pub none : end ≤ start → words (drop from text) ≡ []
  pub inside : start < end → end ≤ length text
  pub forward : from ≤ start
  pub ordered : start ≤ end

-- the line that begins at a place: it ends before a line feed, or at the text's end, and the next begins after that
pub record NextLine (text : List ℕ) (from end : ℕ) : Type 0 where
  pub ends : end ≡ from + line_run (drop from text)
  pub found : from < length text → lines_of (drop from text) ≡ part text from end ∷ lines_of (drop (end + 1) text)
  pub inside : from < length text → end ≤ length text
  pub forward : from ≤ end
