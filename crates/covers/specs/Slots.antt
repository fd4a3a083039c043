-- What the cover table says of a slot, 4 × an entry + a soil group - 1, and the cell of a slot.
use Rattle.std.specs.Prelude.{Bool, cond, List, ℕ, suc, ◌+◌, ◌*◌, ◌/◌, ◌%◌, eqb}
use Rattle.paper.specs.Limits.{most_cells, most_available_water, most_root_depth}
use Rattle.paper.specs.Covers.{number_of, open_of, curve_number_of, largest_of, growing_of, dormant_of, root_depth_of}
use Rattle.paper.specs.Setup.{Cell}

abbrev pub open_at : List ℕ → ℕ → Bool
open_at covers slot = eqb (open_of covers (slot / 4)) 1

-- the interception figure of the season
unfoldable pub season_at : List ℕ → ℕ → Bool → ℕ
season_at covers slot growing = cond growing (growing_of covers (slot / 4)) (dormant_of covers (slot / 4))

abbrev pub number_at : List ℕ → ℕ → ℕ
number_at covers slot = curve_number_of covers (slot / 4) (slot % 4 + 1)

-- number `base` + the soil group of the entry, on open water 0: at 5 the largest recharge, at 11 the root depth
unfoldable pub group_number_at : List ℕ → ℕ → ℕ → ℕ
group_number_at covers base slot = cond (open_at covers slot) 0 (number_of covers (slot / 4) (base + (slot % 4 + 1)))

-- the cell of a slot, with its available water and its way
unfoldable pub cell_from : List ℕ → ℕ → ℕ → ℕ → Cell
cell_from covers slot available way =
    record {
      open? = open_at covers slot;
      closed? = eqb way (suc most_cells);
      capacity = available * root_depth_of covers (slot / 4) (slot % 4 + 1);
      N = number_at covers slot;
      largest = largest_of covers (slot / 4) (slot % 4 + 1);
      growing_figure = growing_of covers (slot / 4);
      dormant_figure = dormant_of covers (slot / 4);
    }

-- the most that a cell's soil can hold: available water × root depth
abbrev pub most_capacity : ℕ
most_capacity = most_available_water * most_root_depth
