-- How long what is written into a lent buffer can be.
use Rattle.std.specs.Prelude.{ℕ}

-- a number of 64 bits and the byte after it; two; a day's line of eight; the last line `end` and a number; and `refused`, a number, `at` and a number
abbrev pub most_item : ℕ
most_item = 21

abbrev pub most_pair : ℕ
most_pair = 42

abbrev pub most_line : ℕ
most_line = 168

abbrev pub most_end : ℕ
most_end = 25

abbrev pub most_refusal : ℕ
most_refusal = 53
