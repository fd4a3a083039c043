-- The edges of the limits of documents 01 and 02, as one table that computes: for each limit a value on it that passes and the next one that fails, for each
-- number of a cover entry the figure that reads it, both limits of both seasons from both sides, the serials, the zeros, and each refusal's number
-- and place on an example. So a slip of one in a definition shows here.
use mathlib.Core.Path.{◌≡◌, refl}
use mathlib.Core.Bool.{Bool, true, false}
use mathlib.Core.List.{List, [], ◌∷◌, ◌++◌}
use Prim.Native.Nat.{ℕ, ◌+◌, ◌*◌}
use lib.IntN.{ℤ, pos, negsuc}
use lib.ListN.{length, set, replicate}
use Rattle.theory.specs.Lists.{made}
use Rattle.theory.specs.Lowest.{or_at, lowest, is_found, some}
use Rattle.theory.specs.Sums.{sum, given}
use Rattle.theory.specs.Ways.{walk, on_ring}
use Rattle.paper.specs.Covers.{entries, size_fits, group_fits, rises, entry_fits}
use Rattle.paper.specs.Directions.{way_of, stepped, cell_at, goes_by}
use Rattle.paper.specs.Setup.{Climate, Setup, Cell, cell, cells_of, grid_fits, season_fits, setpoints_fit, climate_fits, growing, place_or, entry_of, cell_fits, is_open, goes, pointed, next, is_closed}
use Rattle.paper.specs.State.{Memory, none, serial, Past, State, Day, no_rain, no_past, remembered, five_days, most_soil_of, most_snow_of, stores_fit, memory_fits, last_fits, past_fits, day_fits, follows, fresh_state}
use Rattle.paper.specs.Interception.{intercepted, net}
use Rattle.paper.specs.Snow.{falls_as_snow, above_freezing, meltable}
use Rattle.paper.specs.CurveNumber.{I, II, III, class, condition_of}
use Rattle.paper.specs.Frost.{floor, or_zero, frost_after, not_dry, counted}
use Rattle.paper.specs.CellDay.{today, figure_of, net_of, store_of}
use Rattle.paper.specs.Refusals.{
  number_of,
  place_of,
  verdict_number,
  verdict_place,
  single,
  judged,
  verdict,
  one_each,
  setup_lengths,
  cover_places,
  cover_fits,
  map_tests,
  setup_tests,
  state_fits,
  too_deep,
  day_tests,
}
use Rattle.paper.specs.Day.{Results, no_totals, lengths_of, verdict_of}

-- a cover entry with 16 numbers of its own: each is read where it should be
abbrev told : List ℕ
told = 7 ∷ 0 ∷ 41 ∷ 42 ∷ 43 ∷ 44 ∷ 61 ∷ 62 ∷ 63 ∷ 64 ∷ 71 ∷ 72 ∷ 81 ∷ 82 ∷ 83 ∷ 84 ∷ []

abbrev lake : List ℕ
lake = 9 ∷ 1 ∷ 30 ∷ 30 ∷ 30 ∷ 30 ∷ 0 ∷ 0 ∷ 0 ∷ 0 ∷ 0 ∷ 0 ∷ 0 ∷ 0 ∷ 0 ∷ 0 ∷ []

abbrev climate : ℕ → ℕ → ℕ → ℕ → Climate
climate first last reached frozen =
    record { season = record { first = first; last = last }; setpoints = record { first = reached; second = frozen } }

-- two cells in a row, the left one draining to the right one, which is a closed depression
abbrev two : List ℕ → List ℕ → List ℕ → List ℕ → List ℕ → Setup
two covers direction cover group available =
    record {
      grid = record { width = 2; height = 1 };
      climate = climate 120 270 56000 83000;
      covers = covers;
      direction = direction;
      cover = cover;
      group = group;
      available = available;
    }

abbrev plain : Setup
plain = two (told ++ lake) (1 ∷ 0 ∷ []) (7 ∷ 7 ∷ []) (2 ∷ 2 ∷ []) (100 ∷ 100 ∷ [])

abbrev day : ℕ → ℕ → ℕ → ℤ → ℤ → ℤ → ℕ → Day
day number day_of_year gross minimum mean maximum potential =
    record {
      serial = number;
      day_of_year = day_of_year;
      gross = gross;
      minimum = minimum;
      mean = mean;
      maximum = maximum;
      potential = potential;
    }

-- the tests on the limits, and the ones just past them
abbrev entry : ℕ → ℕ → Bool
entry k value = entry_fits (set told k value) 0

abbrev weather : ℤ → ℤ → ℤ → Bool
weather minimum mean maximum = day_fits (day 1 1 0 minimum mean maximum 0)

abbrev memory : ℕ → ℕ → ℕ → ℕ → ℕ → Memory
memory a b c d e = record { oldest = a; fourth = b; third = c; second = d; yesterday = e }

abbrev frosty : ℕ → Past
frosty index = record { memory = no_rain; last = none; frost = index }

abbrev state : List ℕ → List ℕ → State
state soil snow = record { soil = soil; snow = snow; past = no_past }

abbrev lakes : Setup
lakes = two (told ++ lake) (0 ∷ 0 ∷ []) (9 ∷ 9 ∷ []) (1 ∷ 1 ∷ []) (0 ∷ 0 ∷ [])

abbrev on_the_limits : List Bool
on_the_limits =
    -- the grid, the season
    grid_fits (record { width = 1; height = 1 }) ∷ grid_fits (record { width = 64; height = 64 }) ∷ grid_fits (record { width = 4096; height = 1 })
    ∷ season_fits (record { first = 1; last = 366 }) ∷ season_fits (record { first = 366; last = 366 }) ∷ season_fits (record { first = 1; last = 1 })
    ∷ growing (record { first = 100; last = 200 }) 100 ∷ growing (record { first = 100; last = 200 }) 200
    -- the setpoints
    ∷ setpoints_fit (record { first = 0; second = 0 }) ∷ setpoints_fit (record { first = 0; second = 2000000 })
    ∷ setpoints_fit (record { first = 2000000; second = 2000000 }) ∷ climate_fits (climate 120 270 56000 83000)
    -- the cover table: its size, and each number of an entry
    ∷ size_fits told ∷ size_fits (replicate 1024 0)
    ∷ entry 0 1 ∷ entry 0 255 ∷ entry 1 0 ∷ entry 1 1
    ∷ entry 2 30 ∷ entry 3 30 ∷ entry 4 30 ∷ entry 5 30 ∷ entry 2 100 ∷ entry 3 100 ∷ entry 4 100 ∷ entry 5 100
    ∷ entry 6 100000 ∷ entry 7 100000 ∷ entry 8 100000 ∷ entry 9 100000 ∷ entry 10 10000 ∷ entry 11 10000
    ∷ entry 12 1000 ∷ entry 13 1000 ∷ entry 14 1000 ∷ entry 15 1000 ∷ rises (told ++ lake) 1
    -- a cell's own numbers
    ∷ cell_fits (two (told ++ lake) [] (9 ∷ []) (1 ∷ []) (600 ∷ [])) 0 ∷ cell_fits (two (told ++ lake) [] (7 ∷ []) (4 ∷ []) (0 ∷ [])) 0
    -- the day record
    ∷ day_fits (day 0 1 400000 (pos 0) (pos 0) (pos 0) 20000) ∷ day_fits (day 9999999 366 0 (pos 0) (pos 0) (pos 0) 0)
    ∷ falls_as_snow (pos 279) (pos 360) (pos 399) ∷ weather (negsuc 999) (negsuc 999) (negsuc 999) ∷ weather (pos 1500) (pos 1500) (pos 1500) ∷ weather (negsuc 999) (pos 0) (pos 1500)
    -- the state
    ∷ last_fits none ∷ last_fits (serial 0) ∷ last_fits (serial 9999999) ∷ memory_fits (memory 400000 400000 400000 400000 400000) ∷ past_fits (frosty 2500000)
    ∷ follows none 0 ∷ follows none 9999999 ∷ follows (serial 0) 1 ∷ follows (serial 9999998) 9999999
    ∷ stores_fit plain (state (8200 ∷ 8200 ∷ []) (10000000 ∷ 0 ∷ [])) 0 ∷ stores_fit lakes (state (0 ∷ 0 ∷ []) (0 ∷ 0 ∷ [])) 1
    ∷ []

abbrev past_the_limits : List Bool
past_the_limits =
    grid_fits (record { width = 0; height = 1 }) ∷ grid_fits (record { width = 1; height = 0 }) ∷ grid_fits (record { width = 4097; height = 1 })
    ∷ season_fits (record { first = 0; last = 366 }) ∷ season_fits (record { first = 1; last = 367 }) ∷ season_fits (record { first = 2; last = 1 })
    ∷ season_fits (record { first = 367; last = 367 }) ∷ season_fits (record { first = 0; last = 0 })
    ∷ growing (record { first = 100; last = 200 }) 99 ∷ growing (record { first = 100; last = 200 }) 201
    ∷ setpoints_fit (record { first = 2000001; second = 2000001 }) ∷ setpoints_fit (record { first = 0; second = 2000001 })
    ∷ setpoints_fit (record { first = 1; second = 0 }) ∷ climate_fits (climate 120 270 1 0) ∷ climate_fits (climate 0 270 0 1)
    ∷ size_fits [] ∷ size_fits (0 ∷ told) ∷ size_fits (replicate 1040 0) ∷ size_fits (replicate 15 0)
    ∷ entry 0 0 ∷ entry 0 256 ∷ entry 1 2
    ∷ entry 2 29 ∷ entry 3 29 ∷ entry 4 29 ∷ entry 5 29 ∷ entry 2 101 ∷ entry 3 101 ∷ entry 4 101 ∷ entry 5 101
    ∷ entry 6 100001 ∷ entry 7 100001 ∷ entry 8 100001 ∷ entry 9 100001 ∷ entry 10 10001 ∷ entry 11 10001
    ∷ entry 12 1001 ∷ entry 13 1001 ∷ entry 14 1001 ∷ entry 15 1001 ∷ rises (told ++ told) 1 ∷ rises (lake ++ told) 1
    ∷ cell_fits (two told [] (9 ∷ []) (1 ∷ []) (0 ∷ [])) 0 ∷ cell_fits (two told [] (7 ∷ []) (0 ∷ []) (0 ∷ [])) 0
    ∷ cell_fits (two told [] (7 ∷ []) (5 ∷ []) (0 ∷ [])) 0 ∷ cell_fits (two told [] (7 ∷ []) (1 ∷ []) (601 ∷ [])) 0
    ∷ day_fits (day 10000000 1 0 (pos 0) (pos 0) (pos 0) 0) ∷ day_fits (day 1 0 0 (pos 0) (pos 0) (pos 0) 0) ∷ day_fits (day 1 367 0 (pos 0) (pos 0) (pos 0) 0)
    ∷ day_fits (day 1 1 400001 (pos 0) (pos 0) (pos 0) 0) ∷ day_fits (day 1 1 0 (pos 0) (pos 0) (pos 0) 20001)
    ∷ weather (negsuc 1000) (pos 0) (pos 0) ∷ weather (pos 0) (pos 0) (pos 1501) ∷ weather (pos 1) (pos 0) (pos 0) ∷ weather (pos 0) (pos 1) (pos 0)
    ∷ falls_as_snow (pos 279) (pos 361) (pos 401) ∷ last_fits (serial 10000000)
    ∷ memory_fits (memory 400001 0 0 0 0) ∷ memory_fits (memory 0 400001 0 0 0) ∷ memory_fits (memory 0 0 400001 0 0)
    ∷ memory_fits (memory 0 0 0 400001 0) ∷ memory_fits (memory 0 0 0 0 400001) ∷ past_fits (frosty 2500001)
    ∷ follows (serial 0) 0 ∷ follows (serial 0) 2 ∷ follows (serial 5) 5 ∷ follows (serial 5) 7
    ∷ stores_fit plain (state (8201 ∷ 0 ∷ []) (0 ∷ 0 ∷ [])) 0 ∷ stores_fit plain (state (0 ∷ 0 ∷ []) (10000001 ∷ 0 ∷ [])) 0
    ∷ stores_fit lakes (state (0 ∷ 1 ∷ []) (0 ∷ 0 ∷ [])) 1 ∷ stores_fit lakes (state (0 ∷ 0 ∷ []) (0 ∷ 1 ∷ [])) 1
    ∷ []

-- what the rules read of the cell of soil group g, the i-th of the table's entries being `told`
abbrev ground : ℕ → Setup
ground g = two (told ++ lake) (1 ∷ 0 ∷ []) (7 ∷ 7 ∷ []) (g ∷ g ∷ []) (3 ∷ 3 ∷ [])

abbrev cell_of : ℕ → Cell
cell_of g =
    record {
      open? = false;
      closed? = false;
      capacity = 3 * (80 + g);
      N = 40 + g;
      largest = 60 + g;
      growing_figure = 71;
      dormant_figure = 72;
    }

-- the number and the place that a day is refused with, 0 and 0 where it is accepted
pub record Told : Type 0 where
  pub number : ℕ
  pub place : ℕ

abbrev lengths : ℕ → Results
lengths n =
    record {
      intercepted = replicate n 5;
      outflow = replicate n 5;
      evapotranspired = replicate n 5;
      recharged = replicate n 5;
      rejected = replicate n 5;
    }

abbrev answer : Setup → State → ℕ → Day → Told
answer s st n d = record { number = verdict_number (verdict_of s st (lengths n) d); place = verdict_place (verdict_of s st (lengths n) d) }

abbrev full : State
full = state (8200 ∷ 8200 ∷ []) (0 ∷ 0 ∷ [])

abbrev warm : Day
warm = day 1 150 1000 (pos 600) (pos 700) (pos 800) 100

abbrev frost : Day
frost = day 1 20 400000 (pos 0) (pos 100) (pos 200) 0

abbrev at : ℕ → ℕ → Told
at number place = record { number = number; place = place }

pub record Edges : Type 0 where
  pub pass : on_the_limits ≡ replicate (length on_the_limits) true
  pub fail : past_the_limits ≡ replicate (length past_the_limits) false
  -- each number of a cover entry is read where it should be
  pub group_A : cell (ground 1) 0 ≡ cell_of 1
  pub group_B : cell (ground 2) 0 ≡ cell_of 2
  pub group_C : cell (ground 3) 0 ≡ cell_of 3
  pub group_D : cell (ground 4) 0 ≡ cell_of 4
  pub closed_cell : (cell (ground 1) 1).closed? ≡ true
  pub open_cell : (cell lakes 0).open? ≡ true
  pub ways : next plain 0 ∷ next plain 1 ∷ next lakes 0 ∷ next (two told (2 ∷ 1 ∷ []) (7 ∷ 7 ∷ []) [] []) 1 ∷ [] ≡ 1 ∷ 4097 ∷ 4098 ∷ 4096 ∷ []
  -- both limits of both seasons, from both sides
  pub growing_sums :
      condition_of true 13999 ∷ condition_of true 14000 ∷ condition_of true 21000 ∷ condition_of true 21001 ∷ [] ≡ I ∷ II ∷ II ∷ III ∷ []
  pub dormant_sums :
      condition_of false 4999 ∷ condition_of false 5000 ∷ condition_of false 11000 ∷ condition_of false 11001 ∷ [] ≡ I ∷ II ∷ II ∷ III ∷ []
  pub sum_of_five : five_days (memory 1 20 300 4000 50000) ≡ 54321
  -- the zeros
  pub no_totals_lem : no_totals ≡ record { gross = 0; intercepted = 0; evapotranspired = 0; recharged = 0; rejected = 0; gone = 0; stored = 0 }
  pub no_past_lem : no_past ≡ record { memory = memory 0 0 0 0 0; last = none; frost = 0 }
  pub fresh : fresh_state plain ≡ state (8200 ∷ 8200 ∷ []) (0 ∷ 0 ∷ [])
  -- each refusal's number and place
  pub taken : answer plain full 2 warm ≡ at 0 0
  pub no_grid : answer (record { grid = record { width = 2; height = 0 }; climate = plain.climate; covers = plain.covers; direction = []; cover = []; group = []; available = [] }) full 2 warm ≡ at 1 0
  pub lent_short : answer plain full 1 warm ≡ at 2 0
  pub table_empty : answer (two [] (1 ∷ 0 ∷ []) (7 ∷ 7 ∷ []) (2 ∷ 2 ∷ []) (100 ∷ 100 ∷ [])) full 2 warm ≡ at 3 0
  pub table_order : answer (two (told ++ told) (1 ∷ 0 ∷ []) (7 ∷ 7 ∷ []) (2 ∷ 2 ∷ []) (100 ∷ 100 ∷ [])) full 2 warm ≡ at 3 1
  pub no_code : answer (two told (1 ∷ 0 ∷ []) (7 ∷ 8 ∷ []) (2 ∷ 2 ∷ []) (100 ∷ 100 ∷ [])) full 2 warm ≡ at 4 1
  pub ring : answer (two told (1 ∷ 16 ∷ []) (7 ∷ 7 ∷ []) (2 ∷ 2 ∷ []) (100 ∷ 100 ∷ [])) full 2 warm ≡ at 5 0
  pub no_season : answer (record { grid = plain.grid; climate = climate 1 367 56000 83000; covers = plain.covers; direction = plain.direction; cover = plain.cover; group = plain.group; available = plain.available }) full 2 warm ≡ at 6 0
  pub no_setpoints : answer (record { grid = plain.grid; climate = climate 120 270 83000 56000; covers = plain.covers; direction = plain.direction; cover = plain.cover; group = plain.group; available = plain.available }) full 2 warm ≡ at 6 0
  pub no_day : answer plain full 2 (day 1 150 400001 (pos 600) (pos 700) (pos 800) 100) ≡ at 7 0
  pub gap : answer plain (record { soil = full.soil; snow = full.snow; past = record { memory = no_rain; last = serial 5; frost = 0 } }) 2 warm ≡ at 8 0
  pub too_wet : answer plain (state (8200 ∷ 8201 ∷ []) (0 ∷ 0 ∷ [])) 2 warm ≡ at 9 1
  pub bad_memory : answer plain (record { soil = full.soil; snow = full.snow; past = record { memory = memory 0 0 400001 0 0; last = none; frost = 0 } }) 2 warm ≡ at 9 2
  pub bad_frost : answer plain (record { soil = full.soil; snow = full.snow; past = frosty 2500001 }) 2 warm ≡ at 9 2
  -- 400,000 less the dormant 72 is 399,928: 10,000,000 itself is fine
  pub deep_enough : answer plain (state (0 ∷ 0 ∷ []) (0 ∷ 9600072 ∷ [])) 2 frost ≡ at 0 0
  pub too_deep_lem : answer plain (state (0 ∷ 0 ∷ []) (0 ∷ 9600073 ∷ [])) 2 frost ≡ at 10 1

pub edges : Edges
unfolding
    made or_at lowest is_found some sum given walk on_ring entries size_fits group_fits rises entry_fits way_of stepped cell_at goes_by cell cells_of grid_fits
    season_fits setpoints_fit climate_fits growing place_or entry_of cell_fits is_open goes pointed next is_closed remembered five_days most_soil_of most_snow_of stores_fit memory_fits
    last_fits past_fits day_fits follows fresh_state intercepted net falls_as_snow above_freezing meltable class condition_of floor or_zero frost_after not_dry counted today figure_of net_of store_of
    number_of place_of verdict_number verdict_place single judged verdict one_each setup_lengths cover_places cover_fits map_tests setup_tests state_fits
    too_deep day_tests lengths_of verdict_of
edges =
    record {
      pass = refl;
      fail = refl;
      group_A = refl;
      group_B = refl;
      group_C = refl;
      group_D = refl;
      closed_cell = refl;
      open_cell = refl;
      ways = refl;
      growing_sums = refl;
      dormant_sums = refl;
      sum_of_five = refl;
      no_totals_lem = refl;
      no_past_lem = refl;
      fresh = refl;
      taken = refl;
      no_grid = refl;
      lent_short = refl;
      table_empty = refl;
      table_order = refl;
      no_code = refl;
      ring = refl;
      no_season = refl;
      no_setpoints = refl;
      no_day = refl;
      gap = refl;
      too_wet = refl;
      bad_memory = refl;
      bad_frost = refl;
      deep_enough = refl;
      too_deep_lem = refl;
    }
