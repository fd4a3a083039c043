-- The cover file: the season's two days, the count of covers, and 16 numbers for each.
use Rattle.std.specs.Prelude.{Bool, ◌&&◌, List, ℕ, ◌+◌, ◌*◌, eqb, length}
use Rattle.paper.specs.Limits.{within, most_covers}
use Rattle.words.specs.Words.{words}
use Rattle.words.specs.Numbers.{number}
use Rattle.grids.specs.Headers.{word_at, size_of}

-- the third word; 0, where that is no number or one below zero
unfoldable pub cover_count : List ℕ → ℕ
cover_count text = size_of (number (word_at (words text) 2))

-- no other word is looked at
unfoldable pub is_cover_file : List ℕ → Bool
is_cover_file text = within 1 most_covers (cover_count text) && eqb (length (words text)) (3 + 16 * cover_count text)
