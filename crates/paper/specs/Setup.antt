-- The setup: grid, season, setpoints of the frost index, cover table and cells, and what the rules read of one cell.
use Rattle.std.specs.Prelude.{Bool, cond, ◌&&◌, List, ℕ, suc, ◌*◌, eqb, leb, get_or}
use Rattle.theory.specs.Lowest.{Found, at, nowhere, lowest, some}
use Rattle.paper.specs.Limits.{within, most_cells, last_day_of_year, most_available_water, most_setpoint}
use Rattle.paper.specs.Covers.{
  code_of,
  open_of,
  curve_number_of,
  largest_of,
  growing_of,
  dormant_of,
  root_depth_of,
  entries,
}
use Rattle.paper.specs.Directions.{Goes, to, leaves, stays, open_water, way_of, goes_by}

pub record Grid : Type 0 where
  pub width : ℕ
  pub height : ℕ

-- first and last growing day
pub record Season : Type 0 where
  pub first : ℕ
  pub last : ℕ

-- the setpoints of the frost index
pub record Setpoints : Type 0 where
  pub first : ℕ
  pub second : ℕ

-- what the setup says of the whole year
pub record Climate : Type 0 where
  pub season : Season
  pub setpoints : Setpoints

pub record Setup : Type 0 where
  pub grid : Grid
  pub climate : Climate
  -- 16 numbers an entry
  pub covers : List ℕ
  -- one entry a cell
  pub direction : List ℕ
  pub cover : List ℕ
  pub group : List ℕ
  pub available : List ℕ

unfoldable pub cells_of : Grid → ℕ
cells_of g = g.width * g.height

abbrev pub cells : Setup → ℕ
cells s = cells_of s.grid

unfoldable pub grid_fits : Grid → Bool
grid_fits g = leb 1 g.width && leb 1 g.height && leb (cells_of g) most_cells

unfoldable pub season_fits : Season → Bool
season_fits s = within 1 last_day_of_year s.first && within 1 last_day_of_year s.last && leb s.first s.last

-- 0 to 2,000,000, first not above second
unfoldable pub setpoints_fit : Setpoints → Bool
setpoints_fit s = leb s.first most_setpoint && leb s.second most_setpoint && leb s.first s.second

unfoldable pub climate_fits : Climate → Bool
climate_fits c = season_fits c.season && setpoints_fit c.setpoints

-- the day of the year is a growing day: both ends count
unfoldable pub growing : Season → ℕ → Bool
growing s day_of_year = within s.first s.last day_of_year

-- a cell's numbers
abbrev pub cover_of : Setup → ℕ → ℕ
cover_of s i = get_or s.cover i 0

abbrev pub group_of : Setup → ℕ → ℕ
group_of s i = get_or s.group i 0

abbrev pub available_of : Setup → ℕ → ℕ
available_of s i = get_or s.available i 0

-- its entry in the cover table; a code that the table does not have is given the place past the last one
unfoldable pub place_or : ℕ → Found → ℕ
place_or past (at e) = e
place_or past nowhere = past

unfoldable pub entry_of : Setup → ℕ → ℕ
entry_of s i = place_or (entries s.covers) (lowest (entries s.covers) (λ e. eqb (code_of s.covers e) (cover_of s i)))

unfoldable pub cell_fits : Setup → ℕ → Bool
cell_fits s i =
    some (entries s.covers) (λ e. eqb (code_of s.covers e) (cover_of s i))
    && within 1 4 (group_of s i)
    && leb (available_of s i) most_available_water

unfoldable pub is_open : Setup → ℕ → Bool
is_open s i = eqb (open_of s.covers (entry_of s i)) 1

-- an open-water cell points nowhere, whatever its byte
unfoldable pub goes : Setup → ℕ → Goes
goes s i = cond (is_open s i) open_water (goes_by s.grid.width s.grid.height i (way_of (get_or s.direction i 0)))

-- the cell that it points to, or a number past all cells: 4,096 over the edge, 4,097 where it stays, 4,098 on open water
unfoldable pub pointed : Goes → ℕ
pointed (to j) = j
pointed leaves = most_cells
pointed stays = suc most_cells
pointed open_water = suc (suc most_cells)

unfoldable pub next : Setup → ℕ → ℕ
next s i = pointed (goes s i)

unfoldable pub is_closed : Goes → Bool
is_closed (to j) = Bool.false
is_closed leaves = Bool.false
is_closed stays = Bool.true
is_closed open_water = Bool.false

-- what the rules read of one cell
pub record Cell : Type 0 where
  -- open water
  pub open? : Bool
  -- a closed depression
  pub closed? : Bool
  pub capacity : ℕ
  -- the table's N
  pub N : ℕ
  -- the largest daily recharge
  pub largest : ℕ
  -- interception
  pub growing_figure : ℕ
  pub dormant_figure : ℕ

unfoldable pub cell : Setup → ℕ → Cell
cell s i =
    record {
      open? = is_open s i;
      closed? = is_closed (goes s i);
      capacity = available_of s i * root_depth_of s.covers (entry_of s i) (group_of s i);
      N = curve_number_of s.covers (entry_of s i) (group_of s i);
      largest = largest_of s.covers (entry_of s i) (group_of s i);
      growing_figure = growing_of s.covers (entry_of s i);
      dormant_figure = dormant_of s.covers (entry_of s i);
    }
