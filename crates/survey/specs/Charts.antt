-- A setup as the code holds it: every cell's slot, where it points, and an order upslope first; and what the survey leaves of them.
use Rattle.std.specs.Prelude.{◌≡◌, cond, List, ℕ, ◌+◌, ◌*◌, ◌-◌, ◌≤◌, ◌<◌, ltb, length, replicate, get_or}
use Rattle.theory.specs.Lists.{made_over}
use Rattle.theory.specs.Ways.{UpslopeFirst}
use Rattle.paper.specs.Limits.{most_cells, most_available_water}
use Rattle.paper.specs.Covers.{entries}
use Rattle.paper.specs.Setup.{Setup, cells, next, entry_of, group_of}
use Rattle.paper.specs.Refusals.{Refusal, verdict, accepted, refused, map_tests}
use Rattle.paper.specs.Day.{check_of}
use Rattle.records.specs.Verdicts.{verdict_in}
use Rattle.records.specs.Verdicts.{Verdict}
use Rattle.covers.specs.Table.{EntriesFit}

-- a cell's slot: 4 × the entry of its cover + its group - 1
abbrev pub slot_of : Setup → ℕ → ℕ
slot_of s i = 4 * entry_of s i + (group_of s i - 1)

-- a table that fits, and n cells that it has, in an array of slots
pub record SlotsFit (covers : List ℕ) (n : ℕ) (slots available : List ℕ) : Type 0 where
  pub table : EntriesFit covers
  pub few : n ≤ most_cells
  pub sized : length slots ≡ 4096
  pub slotted : (i : ℕ) → i < n → get_or slots i 0 < 4 * entries covers
  pub each : length available ≡ n
  pub watered : (i : ℕ) → i < n → get_or available i 0 ≤ most_available_water

-- where each of n cells points, by the list's first n entries; past the cells nowhere
unfoldable pub next_as : ℕ → List ℕ → ℕ → ℕ
next_as n ways i = cond (ltb i n) (get_or ways i 4097) 4097

-- an array of 4,096 ways, of which the first n are cells'
pub record WaysFit (n : ℕ) (ways : List ℕ) : Type 0 where
  pub most : n ≤ 4096
  pub sized : length ways ≡ 4096

-- the list has an order, upslope first, in its first n places
pub record OrderedBy (n : ℕ) (next : ℕ → ℕ) (l : List ℕ) : Type 0 where
  pub order : UpslopeFirst n next
  pub listed : (t : ℕ) → t < n → get_or l t 0 ≡ order.who t

-- arrays that hold nothing
pub record Wiped (slots ways order : List ℕ) : Type 0 where
  pub no_slots : slots ≡ replicate 4096 0
  pub no_ways : ways ≡ replicate 4096 4097
  pub no_order : order ≡ replicate 4096 0

-- a grid within its limits, with one entry a cell
pub record Surveyable (s : Setup) : Type 0 where
  pub wide : 1 ≤ s.grid.width
  pub high : 1 ≤ s.grid.height
  pub few : cells s ≤ most_cells
  pub directions : length s.direction ≡ cells s
  pub covers : length s.cover ≡ cells s
  pub groups : length s.group ≡ cells s
  pub waters : length s.available ≡ cells s

-- the arrays of a setup that passed: past the cells the slots and the ways are as they were lent
pub record Mapped (s : Setup) (slots₀ ways₀ slots ways order : List ℕ) : Type 0 where
  pub slots_are : slots ≡ made_over (cells s) (slot_of s) slots₀
  pub slots_sized : length slots ≡ 4096
  pub ways_are : ways ≡ made_over (cells s) (next s) ways₀
  pub ways_sized : length ways ≡ 4096
  pub ordered : OrderedBy (cells s) (next s) order

-- after tests 3 to 6
pub record Chart (s : Setup) (slots₀ ways₀ : List ℕ) (r : Verdict) (slots ways order : List ℕ) : Type 0 where
  pub verdict_is : r ≡ verdict_in (verdict (map_tests s))
  pub mapped : verdict (map_tests s) ≡ accepted → Mapped s slots₀ ways₀ slots ways order

-- after tests 1 to 6: refused, the arrays are wiped
pub record Surveyed (s : Setup) (slots₀ ways₀ : List ℕ) (r : Verdict) (slots ways order : List ℕ) : Type 0 where
  pub verdict_is : r ≡ verdict_in (check_of s)
  pub mapped : check_of s ≡ accepted → Mapped s slots₀ ways₀ slots ways order
  pub wiped : (why : Refusal) → check_of s ≡ refused why → Wiped slots ways order
