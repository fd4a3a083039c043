-- How the code finds a cell's slot, by the index of the cover table, and where it points, by its row and column.
use Rattle.std.specs.Prelude.{◌≡◌, cond, ◌&&◌, List, ℕ, suc, ◌+◌, ◌*◌, ◌-◌, ◌≤◌, eqb, leb, length, get_or, Option, None}
use Rattle.theory.specs.Lists.{made_over}
use Rattle.theory.specs.Lowest.{lowest}
use Rattle.paper.specs.Limits.{within, most_cells, most_available_water}
use Rattle.paper.specs.Covers.{entries}
use Rattle.paper.specs.Directions.{way_of, goes_by}
use Rattle.paper.specs.Setup.{pointed}
use Rattle.records.specs.Places.{place_in}
use Rattle.covers.specs.Slots.{open_at}
use Rattle.survey.specs.Ways.{goes_from}
use Rattle.survey.specs.Order.{Counted}

-- the slot of a cell's three numbers, 256 where they do not fit
unfoldable pub slot_by : List ℕ → ℕ → ℕ → ℕ → ℕ
slot_by index code group available =
    cond (eqb (get_or index code 0) 0) 256
    (cond (within 1 4 group && leb available most_available_water) (4 * (get_or index code 0 - 1) + (group - 1)) 256)

abbrev pub slot_at : List ℕ → List ℕ → List ℕ → List ℕ → ℕ → ℕ
slot_at index cover group available i = slot_by index (get_or cover i 0) (get_or group i 0) (get_or available i 0)

-- an index of at most 64 entries
pub record IndexFits (index : List ℕ) : Type 0 where
  pub sized : length index ≡ 256
  pub few : (code : ℕ) → get_or index code 0 ≤ 64

-- where a cell points, by its row and column, whether it is open water, and its direction byte
unfoldable pub way_from : ℕ → ℕ → ℕ → ℕ → ℕ → ℕ → ℕ
way_from width height row column lake byte =
    cond (eqb lake 1) (suc (suc most_cells)) (pointed (goes_from width height row column (way_of byte)))

-- where cell i points, by its slot
unfoldable pub way_at : ℕ → ℕ → List ℕ → (ℕ → ℕ) → List ℕ → ℕ → ℕ
way_at width height covers slot direction i =
    cond (open_at covers (slot i)) (suc (suc most_cells))
    (pointed (goes_by width height i (way_of (get_or direction i 0))))

-- a grid of at most 4,096 cells with one entry each, an index of the table's entries, and arrays with room for the slots and the ways
pub record Layable (width height : ℕ) (index covers direction cover group available slots ways : List ℕ) : Type 0 where
  pub wide : 1 ≤ width
  pub few : width * height ≤ most_cells
  pub indexed : IndexFits index
  pub entered : (code : ℕ) → get_or index code 0 ≤ entries covers
  pub directions : length direction ≡ width * height
  pub coded : length cover ≡ width * height
  pub grouped : length group ≡ width * height
  pub watered : length available ≡ width * height
  pub slots_sized : length slots ≡ 4096
  pub ways_sized : length ways ≡ 4096

-- the lowest cell without a slot; and where there is none, the slots and the ways over the front of their arrays, and how many cells lead to each
pub record LaidOrBad (n : ℕ) (slot way : ℕ → ℕ) (r : Option ℕ) (slots₀ slots ways₀ ways order : List ℕ) : Type 0 where
  pub lowest_bad : r ≡ place_in (lowest n (λ i. eqb (slot i) 256))
  pub slotted : r ≡ None → slots ≡ made_over n slot slots₀
  pub laid : r ≡ None → ways ≡ made_over n way ways₀
  pub counted : r ≡ None → Counted n way n order
