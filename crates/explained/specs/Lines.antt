-- What is printed of a day: why the cell got its figures, and the figures.
use Rattle.std.specs.Prelude.{List, ◌++◌, ℕ}
use Prim.Native.String.{String}
use Rattle.words.specs.Digits.{digits, bytes}
use Rattle.lines.specs.Lines.{refusal}
use Rattle.paper.specs.CellDay.{Figures}
use Rattle.paper.specs.Reasons.{
  Reason,
  open_water,
  under_snow,
  no_water,
  below_potential,
  room_for_all,
  above_largest,
  all_recharged,
  Explanation,
  because,
  by_refusal,
}
use Rattle.words.specs.Inches.{inches}

-- a depth after some words, and what follows
unfoldable pub say : List ℕ → ℕ → List ℕ → List ℕ
say words depth rest = words ++ (inches depth ++ rest)

abbrev pub line_end : List ℕ
line_end = bytes " inches\n"

-- the reason, and what its first depth is; then the second
unfoldable pub reason_words : Reason → String
reason_words open_water = "open water: gross precipitation "
reason_words under_snow = "no water reached the ground and snow lies at the day's end: water "
reason_words no_water = "no water reached the ground: water "
reason_words below_potential = "infiltration below potential evapotranspiration: infiltration "
reason_words room_for_all = "the soil had room for all of it: surplus over potential "
reason_words above_largest = "excess above the cover's largest: excess "
reason_words all_recharged = "all the excess recharged: excess "

unfoldable pub second_words : Reason → String
second_words open_water = ", inflow "
second_words under_snow = ", snow at the end "
second_words no_water = ", snow at the end "
second_words below_potential = ", potential "
second_words room_for_all = ", room "
second_words above_largest = ", largest "
second_words all_recharged = ", largest "

unfoldable pub reason_line : ℕ → Reason → ℕ → ℕ → List ℕ
reason_line serial reason a b =
    bytes "serial " ++ (digits serial ++ (bytes ": " ++ say (bytes (reason_words reason)) a (say (bytes (second_words reason)) b line_end)))

unfoldable pub figures_line : Figures → List ℕ
figures_line f =
    say (bytes "  intercepted ") f.intercepted
    (say (bytes ", outflow ") f.outflow
    (say (bytes ", evapotranspired ") f.evapotranspired
    (say (bytes ", recharged ") f.recharged
    (say (bytes ", rejected ") f.rejected
    (say (bytes "; soil ") f.soil
    (say (bytes ", snow ") f.snow line_end))))))

-- two lines, or the refusal that explains a refused day
unfoldable pub why_lines : ℕ → Explanation → Figures → List ℕ
why_lines serial (because reason a b) figures = reason_line serial reason a b ++ figures_line figures
why_lines serial (by_refusal why) figures = refusal why

-- the most bytes of two depths of 64 bits, of a reason's line besides its words, and of each line, with a serial and depths of 64 bits
abbrev pub most_two : ℕ
most_two = 50

abbrev pub most_serial : ℕ
most_serial = 87

abbrev pub most_reason_line : ℕ
most_reason_line = 171

abbrev pub most_figures_line : ℕ
most_figures_line = 262

abbrev pub most_lines : ℕ
most_lines = 433
