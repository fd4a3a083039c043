-- Bytes written into a lent buffer, as many as fit.
use Rattle.std.specs.Prelude.{List, ◌≡◌, ℕ, ◌+◌, ◌≤◌, min, length}
use Rattle.std.proofs.lemmas.List.Edits.{sets}

-- the largest number that a place can be
abbrev pub farthest : ℕ
farthest = 18446744073709551615

-- `bytes` stand in the buffer from `at` on, cut at its end (`sets` past the end changes nothing), every other byte is as it was, and `next` is where
-- they would end
pub record Put (at : ℕ) (bytes before after : List ℕ) (next : ℕ) : Type 0 where
  pub buffer : after ≡ sets before at bytes
  pub end : next ≡ min (at + length bytes) farthest

-- `bytes`, at most `most` of them, put into the buffer from `at` on
pub record Wrote (most at : ℕ) (bytes before after : List ℕ) (next : ℕ) : Type 0 where
  pub put : Put at bytes before after next
  pub short : length bytes ≤ most
