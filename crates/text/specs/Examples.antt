-- Worked examples of the program's text: the paper's own, also with a slope in place of its closed depression, one for each kind of fault in the
-- input, and the program's setpoints.
use Rattle.std.specs.Prelude.{◌≡◌, List, [], ◌∷◌, ◌++◌, ℕ}
use Prim.Native.String.{String}
use Rattle.words.specs.Digits.{bytes}
use Rattle.text.specs.Program.{printed}

-- each line ended by a line feed
unfoldable pub lines : List String → List ℕ
lines [] = []
lines (l ∷ ls) = bytes l ++ 10 ∷ lines ls

pub record Example : Type 0 where
  pub input : List String
  pub output : List String

unfoldable pub Agree : List Example → Type 0
Agree [] = Unit {0}
Agree (e ∷ es) = (printed (lines e.input) ≡ lines e.output) × Agree es

-- the paper's input, with the line of cell 1
abbrev pub paper_with : String → List String
paper_with cell =
    "2 1 120 270"
    ∷ "1"
    ∷ "3 0 75 75 75 75 6000 6000 6000 6000 900 0 250 250 250 250"
    ∷ "1 3 2 200"
    ∷ cell
    ∷ "1 150 30900 600 700 800 2000"
    ∷ "2 151 0 600 700 800 2000"
    ∷ []

abbrev pub paper_input : List String
paper_input = paper_with "0 3 2 200"

abbrev pub of_the_paper : Example
of_the_paper =
    record {
      input = paper_input;
      output = "1 61800 1800 4000 12000 44000 0 100000" ∷ "2 0 0 3928 0 0 0 96072" ∷ "end 2" ∷ [];
    }

-- cell 1 drains over the edge in place of a closed depression: what it rejects is gone
abbrev pub on_a_slope : Example
on_a_slope =
    record {
      input = paper_with "1 3 2 200";
      output = "1 61800 1800 4000 12000 0 44000 100000" ∷ "2 0 0 3928 0 0 0 96072" ∷ "end 2" ∷ [];
    }

-- one line of input, and a refusal
abbrev pub says : String → String → Example
says input output = record { input = input ∷ []; output = output ∷ [] }

-- a grid of one cell with one cover, code 3
abbrev pub with_cell : String → String → Example
with_cell cell output =
    record {
      input = "1 1 1 366 1" ∷ "3 0 75 75 75 75 0 0 0 0 0 0 0 0 0 0" ∷ cell ∷ [];
      output = output ∷ [];
    }

-- rain of 30,000 on bare ground of curve number 75 after two frosty days and a dry spell; what sinks in recharges, so that what is gone tells the
-- condition that the day counts as
abbrev pub rain_after : String → String → Example
rain_after frosts rained =
    record {
      input = "1 1 1 366 1" ∷ "3 0 75 75 75 75 100000 100000 100000 100000 0 0 0 0 0 0" ∷ "1 3 1 0" ∷ frosts ∷ "3 3 30000 400 400 400 0" ∷ [];
      output = "1 0 0 0 0 0 0 0" ∷ "2 0 0 0 0 0 0 0" ∷ rained ∷ "end 3" ∷ [];
    }

unfoldable pub examples : List Example
examples =
    of_the_paper
    ∷ on_a_slope
    -- form: a leading zero, a minus zero, ten digits, a plus, a tab
    ∷ says "2 1 007" "refused 11 at 2"
    ∷ says "2 1 -0" "refused 11 at 2"
    ∷ says "2 1234567890" "refused 11 at 1"
    ∷ says "+2 1" "refused 11 at 0"
    ∷ says "2\t1 1" "refused 11 at 0"
    -- too few numbers, in place of test 1 and after it
    ∷ says "" "refused 11 at 0"
    ∷ says "0" "refused 11 at 1"
    ∷ says "2 1 120 270" "refused 11 at 4"
    ∷ says "2 1 120 270 1" "refused 11 at 5"
    -- the grid: as unbounded numbers, and below zero
    ∷ says "0 1" "refused 1 at 0"
    ∷ says "641 6700417" "refused 1 at 0"
    ∷ says "-1 1" "refused 1 at 0"
    -- the count of covers
    ∷ says "2 1 120 270 65" "refused 3 at 0"
    ∷ says "2 1 120 270 -1" "refused 3 at 0"
    -- cells: a direction over 255 is a closed depression, one below zero a fault; a code is a whole number
    ∷ with_cell "257 3 1 0" "end 0"
    ∷ with_cell "-1 3 1 0" "refused 4 at 0"
    ∷ with_cell "1 259 1 0" "refused 4 at 0"
    -- a day cut off, and one whose maximum is below its mean
    ∷ with_cell "1 3 1 0 1 1 0 0 0 0" "refused 11 at 31"
    ∷ with_cell "1 3 1 0 1 1 0 -20 -10 -11 0" "refused 7 at 0"
    -- a day after a gap: the lines before it stand
    ∷ record {
      input = "1 1 1 366 1" ∷ "3 0 75 75 75 75 0 0 0 0 0 0 0 0 0 0" ∷ "1 3 1 0 5 1 0 -20 -10 0 0 7 2 0 0 0 0 0" ∷ [];
      output = "5 0 0 0 0 0 0 0" ∷ "refused 8 at 0" ∷ [];
    }
    -- frozen ground: a frost index of 55,999 is condition I, 56,000 and 82,999 are II, 83,000 is III
    ∷ rain_after "1 1 0 -626 -626 -626 0 2 2 0 116 116 116 0" "3 30000 0 0 27539 0 2461 0"
    ∷ rain_after "1 1 0 -625 -625 -625 0 2 2 0 115 115 115 0" "3 30000 0 0 20393 0 9607 0"
    ∷ rain_after "1 1 0 -625 -625 -625 0 2 2 0 -386 -386 -386 0" "3 30000 0 0 20393 0 9607 0"
    ∷ rain_after "1 1 0 -624 -624 -624 0 2 2 0 -387 -387 -387 0" "3 30000 0 0 11819 0 18181 0"
    ∷ []
