-- What the program `potential` prints: an answer to each line, in a line of its own.
use Rattle.std.specs.Prelude.{cond, List, [], ◌∷◌, ◌++◌, ℕ, suc, ltb, length}
use Rattle.paper.specs.Radiation.{Estimated, estimated, readings, estimate_number, estimated_of}
use Rattle.words.specs.Words.{lines_of}
use Rattle.lines.specs.Lines.{row, refused_line}
use Rattle.lines.specs.Reading.{reading, most_bytes}
use Rattle.station.specs.Readings.{Line, estimate, malformed, line_in}

-- the estimate, or its refusal at the line
unfoldable pub estimate_line : ℕ → Estimated → List ℕ
estimate_line line (estimated n) = row n []
estimate_line line readings = refused_line (estimate_number readings) line

-- a line of another form is 11
unfoldable pub answer_to : ℕ → Line → List ℕ
answer_to line (estimate w) = estimate_line line (estimated_of w)
answer_to line malformed = refused_line 11 line

-- one after another, whatever came of those before
unfoldable pub answers : ℕ → List (List ℕ) → List ℕ
answers line [] = []
answers line (l ∷ ls) = answer_to line (line_in (reading l)) ++ answers (suc line) ls

-- lines count from 1; a text that is too long has none
unfoldable pub answered : List ℕ → List ℕ
answered text = cond (ltb most_bytes (length text)) (refused_line 11 0) (answers 1 (lines_of text))

-- the most bytes of an answer, `refused 11 at 65536` and a line feed, and of all: a line takes at least a byte
abbrev pub most_answer : ℕ
most_answer = 20

abbrev pub most_answers : ℕ
most_answers = 1310720
