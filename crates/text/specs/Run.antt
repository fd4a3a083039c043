-- A run of the program: what its functions ask of the input's numbers and of the buffer, and what they leave in it.
use Rattle.std.specs.Prelude.{cond, List, ◌≡◌, ℕ, ◌≤◌, ◌<◌, ltb, length, get_or, replicate, Option, Some, None}
use Rattle.std.proofs.lemmas.List.Edits.{sets}
use Rattle.paper.specs.Limits.{most_cells, most_covers}
use Rattle.lines.specs.Reading.{most_numbers, no_number}
use Rattle.text.specs.Program.{cover_count, cell_count, days_from, printed}
use Rattle.text.specs.Taking.{layout_in}
use Rattle.text.specs.declared.taking.Layout.{Layout}

-- room for any text: 65,536 bytes hold at most 32,768 numbers, so 4,681 days of a line each, and a last line
abbrev pub most_text : ℕ
most_text = 786461

-- the codes of an input's numbers
pub record Coded (ns : List ℕ) : Type 0 where
  pub few : length ns ≤ most_numbers
  pub small : (k : ℕ) → get_or ns k 0 < no_number

-- numbers that are ready for the run, and where their parts stand
pub record Complete (ns : List ℕ) (layout : Layout) : Type 0 where
  pub placed : layout ≡ layout_in ns
  pub cells : cell_count ns ≤ most_cells
  pub covers : cover_count ns ≤ most_covers
  pub numbers : days_from ns ≤ length ns

-- what a run starts from: both stores are zeros
pub record Lent (ns : List ℕ) (layout : Layout) (soil snow : List ℕ) : Type 0 where
  pub coded : Coded ns
  pub placed : layout ≡ layout_in ns
  pub few : cell_count ns ≤ most_cells
  pub soils : soil ≡ replicate (cell_count ns) 0
  pub snows : snow ≡ replicate (cell_count ns) 0

-- what the days of a run ask for
pub record DaysReady (ns : List ℕ) (layout : Layout) (direction : List ℕ) : Type 0 where
  pub coded : Coded ns
  pub placed : layout ≡ layout_in ns
  pub few : length direction ≤ most_cells

-- the program's promise: without room nothing is written; else the whole text, from the buffer's front on, and its length, which is within the buffer
pub record Printed (input before after : List ℕ) (r : Option ℕ) : Type 0 where
  pub answer : r ≡ cond (ltb (length before) most_text) None (Some (length (printed input)))
  pub buffer : after ≡ cond (ltb (length before) most_text) before (sets before 0 (printed input))
  pub short : most_text ≤ length before → length (printed input) ≤ most_text
