-- A cover file's words: how many there are, counted one after another.
use mathlib.Core.List.{List}
use mathlib.Core.Path.{◌≡◌, ap}
use Prim.Native.Nat.{ℕ, ◌+◌, ◌*◌, ◌≤◌, ◌<◌}
use native.Mathlib.Omega.{arith}
use lib.ListN.{length, drop}
use Rattle.words.specs.Words.{words}
use Rattle.words.specs.Spans.{NextWord}
use Rattle.words.proofs.WordLaws.{words_few}

-- so many words stand before the place, and the others after it
abbrev pub Counted : List ℕ → ℕ → ℕ → Type 0
Counted text count from = count + length (words (drop from text)) ≡ length (words text)

module _ (text : List ℕ) (count from start end : ℕ) (c : Counted text count from) (next : NextWord text from start end) where
  pub counted_next : start < end → Counted text (count + 1) end
  counted_next h = omega (arith, c, ap length (next.found h))

  pub counted_few : start < end → 2 * (count + 1) ≤ length text + 1
  counted_few h = omega (arith, counted_next h, words_few text)
