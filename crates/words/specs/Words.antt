-- A text as words, the maximal runs of bytes other than space and line feed, and as lines. A byte is its number: 32 a space, 10 a line feed.
use Rattle.std.specs.Prelude.{Bool, cond, ◌||◌, List, [], ◌∷◌, ℕ, eqb}

unfoldable pub is_blank : ℕ → Bool
is_blank b = eqb b 32 || eqb b 10

-- the text cut at every blank
unfoldable pub longer : ℕ → List (List ℕ) → List (List ℕ)
longer b [] = (b ∷ []) ∷ []
longer b (p ∷ ps) = (b ∷ p) ∷ ps

unfoldable pub pieces : List ℕ → List (List ℕ)
pieces [] = [] ∷ []
pieces (b ∷ bs) = cond (is_blank b) ([] ∷ pieces bs) (longer b (pieces bs))

-- the words: the pieces that are not empty
unfoldable pub kept : List (List ℕ) → List (List ℕ)
kept [] = []
kept ([] ∷ ps) = kept ps
kept ((b ∷ p) ∷ ps) = (b ∷ p) ∷ kept ps

unfoldable pub words : List ℕ → List (List ℕ)
words text = kept (pieces text)

-- the lines: each ends with a line feed, which the last may lack
unfoldable pub lines_of : List ℕ → List (List ℕ)
lines_of [] = []
lines_of (b ∷ bs) = cond (eqb b 10) ([] ∷ lines_of bs) (longer b (lines_of bs))
