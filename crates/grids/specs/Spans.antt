-- The place of a text's word by its number.
use Rattle.std.specs.Prelude.{List, ◌≡◌, ℕ, suc, ◌≤◌, length, drop}
use Rattle.words.specs.Words.{words}
use Rattle.words.specs.Spans.{part}
use Rattle.grids.specs.Headers.{word_at}

-- the word stands there, and those after it are the words from its end on; past the last the place is empty
pub record WordAt (text : List ℕ) (k start end : ℕ) : Type 0 where
  pub word : part text start end ≡ word_at (words text) k
  pub after : words (drop end text) ≡ drop (suc k) (words text)
  pub ordered : start ≤ end
  pub inside : end ≤ length text
