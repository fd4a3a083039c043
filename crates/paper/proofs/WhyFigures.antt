-- Reasons worked by hand, as one table that computes: each of the seven on a day, its edges from both sides, and where the cell asked about stands among the tests.
-- The cells are those of the worked day: grass with interception 900, capacity 50,000 and a largest recharge of 6,000, which drains into a closed depression, a slope
-- or a lake.
use mathlib.Core.Path.{◌≡◌, refl}
use mathlib.Core.List.{List, [], ◌∷◌, ◌++◌}
use Prim.Native.Nat.{ℕ}
use lib.IntN.{ℤ, pos}
use Rattle.theory.specs.Lowest.{or_at, lowest, is_found, some}
use Rattle.theory.specs.Sums.{sum, given}
use Rattle.theory.specs.Ways.{walk, on_ring}
use Rattle.paper.specs.Covers.{entries, size_fits, group_fits, rises, entry_fits}
use Rattle.paper.specs.Directions.{way_of, stepped, cell_at, goes_by}
use Rattle.paper.specs.Setup.{Setup, cell, cells_of, grid_fits, season_fits, setpoints_fit, climate_fits, growing, place_or, entry_of, cell_fits, is_open, goes, pointed, next, is_closed}
use Rattle.paper.specs.State.{State, Day, no_past, five_days, most_soil_of, most_snow_of, stores_fit, memory_fits, last_fits, past_fits, day_fits, follows}
use Rattle.paper.specs.Interception.{intercepted, net}
use Rattle.paper.specs.Snow.{falls_as_snow, above_freezing, meltable, melt}
use Rattle.paper.specs.CurveNumber.{class, condition_of, nearest, curve_number}
use Rattle.paper.specs.Frost.{floor, or_zero, frost_after, not_dry, counted}
use Rattle.paper.specs.Runoff.{beyond_abstraction, spread, runoff}
use Rattle.paper.specs.Soil.{excess, wet_day, dry_day, soil_day}
use Rattle.paper.specs.CellDay.{today, figure_of, intercepted_of, net_of, rain_of, store_of, melt_of, own_of, runoff_of, ground_of, passed_of, open_day, land_day, cell_day}
use Rattle.paper.specs.Flow.{arriving, water_from, water}
use Rattle.paper.specs.Refusals.{cell_numbers, ring, climate, day_record, single, judged, verdict, one_each, setup_lengths, cover_places, cover_fits, state_fits, too_deep, day_tests}
use Rattle.paper.specs.Day.{passed, own, inflow}
use Rattle.paper.specs.Reasons.{
  facts_for,
  facts_of,
  facts_at,
  open_water,
  under_snow,
  no_water,
  below_potential,
  room_for_all,
  above_largest,
  all_recharged,
  reason_number,
  holds,
  reason_of,
  Explanation,
  because,
  by_refusal,
  with_depths,
  explained,
  explained_as,
  why_tests,
  why_of,
}

abbrev covers : List ℕ
covers =
    (3 ∷ 0 ∷ 75 ∷ 75 ∷ 75 ∷ 75 ∷ 6000 ∷ 6000 ∷ 6000 ∷ 6000 ∷ 900 ∷ 0 ∷ 250 ∷ 250 ∷ 250 ∷ 250 ∷ [])
    ++ (9 ∷ 1 ∷ 30 ∷ 30 ∷ 30 ∷ 30 ∷ 0 ∷ 0 ∷ 0 ∷ 0 ∷ 0 ∷ 0 ∷ 0 ∷ 0 ∷ 0 ∷ 0 ∷ [])

-- cell 0 drains as given, cell 1 has the given direction and cover; the season ends on day `last`
abbrev setup : ℕ → ℕ → ℕ → ℕ → Setup
setup above direction cover last =
    record {
      grid = record { width = 2; height = 1 };
      climate = record { season = record { first = 120; last = last }; setpoints = record { first = 56000; second = 83000 } };
      covers = covers;
      direction = above ∷ direction ∷ [];
      cover = 3 ∷ cover ∷ [];
      group = 2 ∷ 2 ∷ [];
      available = 200 ∷ 200 ∷ [];
    }

abbrev hollow : Setup
hollow = setup 1 0 3 270

abbrev lake : Setup
lake = setup 1 1 9 270

abbrev state : ℕ → ℕ → ℕ → ℕ → State
state soil below snow under = record { soil = soil ∷ below ∷ []; snow = snow ∷ under ∷ []; past = no_past }

abbrev full : State
full = state 50000 50000 0 0

abbrev day : ℕ → ℤ → ℕ → Day
day gross temperature potential =
    record {
      serial = 1;
      day_of_year = 150;
      gross = gross;
      minimum = temperature;
      mean = temperature;
      maximum = temperature;
      potential = potential;
    }

-- a warm day with a potential of 2,000
abbrev rain : ℕ → Day
rain gross = day gross (pos 700) 2000

abbrev why : State → Day → ℕ → Explanation
why = why_of hollow

pub record WhyFigures : Type 0 where
  -- 1: on a lake fall 30,900, and 22,000 reach it
  pub on_a_lake : why_of lake (state 50000 0 0 0) (rain 30900) 1 ≡ because open_water 30900 22000
  -- open water comes first, also where no water reaches it
  pub dry_lake : why_of lake (state 50000 0 0 0) (rain 0) 1 ≡ because open_water 0 0
  -- 2: of 1,000 that fall as snow 900 are intercepted, and nothing melts; a unit of snow suffices
  pub under_snow_lem : why full (day 1000 (pos 300) 2000) 0 ≡ because under_snow 0 100
  pub a_unit_of_snow : why full (day 901 (pos 300) 2000) 0 ≡ because under_snow 0 1
  -- 3: none, also where potential is 0, so that infiltration is not below it
  pub no_water_lem : why full (rain 900) 0 ≡ because no_water 0 0
  pub no_potential : why full (day 0 (pos 700) 0) 0 ≡ because no_water 0 0
  -- 4: a unit of rain, and one unit below the potential; melt is water too
  pub a_unit : why full (rain 901) 0 ≡ because below_potential 1 2000
  pub just_below : why full (rain 2899) 0 ≡ because below_potential 1999 2000
  pub melted : why (state 50000 50000 7 7) (rain 0) 0 ≡ because below_potential 7 2000
  -- 5: the potential met, with no room left and none needed; the room is that of the soil before the day; just enough of it
  pub met : why full (rain 2900) 0 ≡ because room_for_all 0 0
  pub room_before : why (state 45000 50000 0 0) (rain 5900) 0 ≡ because room_for_all 3000 5000
  pub just_room : why (state 45000 50000 0 0) (rain 7900) 0 ≡ because room_for_all 5000 5000
  -- 7: a unit more; and as much as the cover's largest
  pub a_unit_over : why (state 45000 50000 0 0) (rain 7901) 0 ≡ because all_recharged 1 6000
  pub at_the_largest : why full (rain 8900) 0 ≡ because all_recharged 6000 6000
  -- 6: a unit more; and the worked day, of which 2,461 run off cell 0, and 22,000 reach cell 1
  pub above_it : why full (rain 8901) 0 ≡ because above_largest 6001 6000
  pub worked_above : why full (rain 30900) 0 ≡ because above_largest 25539 6000
  pub worked_below : why full (rain 30900) 1 ≡ because above_largest 50000 6000
  -- inflow alone is water: of 12,467 that melt on cell 0 4,467 are rejected and reach cell 1, which has none of its own
  pub inflow_alone : why (state 50000 50000 30000 0) (rain 0) 1 ≡ because all_recharged 2467 6000
  -- a refused day by its refusal
  pub refused_day : why full (day 0 (pos 1501) 0) 0 ≡ by_refusal day_record
  -- a cell outside the grid: 4 at its number, after the grid, the bad cells of the grid and before a ring, the climate and the day
  pub outside : why full (rain 0) 2 ≡ by_refusal (cell_numbers 2)
  pub bad_cell_first : why_of (setup 1 0 4 270) full (rain 0) 7 ≡ by_refusal (cell_numbers 1)
  pub before_a_ring : why_of (setup 1 16 3 270) full (rain 0) 7 ≡ by_refusal (cell_numbers 7)
  pub ring_inside : why_of (setup 1 16 3 270) full (rain 0) 1 ≡ by_refusal (ring 0)
  pub before_the_climate : why_of (setup 1 0 3 367) full (rain 0) 2 ≡ by_refusal (cell_numbers 2)
  pub climate_inside : why_of (setup 1 0 3 367) full (rain 0) 1 ≡ by_refusal climate
  pub before_the_day : why full (day 0 (pos 1501) 0) 2 ≡ by_refusal (cell_numbers 2)
  -- the numbers
  pub numbers :
      reason_number open_water
      ∷ reason_number under_snow
      ∷ reason_number no_water
      ∷ reason_number below_potential
      ∷ reason_number room_for_all
      ∷ reason_number above_largest
      ∷ reason_number all_recharged
      ∷ []
      ≡ 1 ∷ 2 ∷ 3 ∷ 4 ∷ 5 ∷ 6 ∷ 7 ∷ []

pub why_figures : WhyFigures
unfolding
    or_at lowest is_found some sum given walk on_ring entries size_fits group_fits rises entry_fits way_of stepped cell_at goes_by cell cells_of grid_fits season_fits setpoints_fit
    climate_fits growing place_or entry_of cell_fits is_open goes pointed next is_closed five_days most_soil_of most_snow_of stores_fit memory_fits last_fits past_fits day_fits follows
    intercepted net falls_as_snow above_freezing meltable melt class condition_of nearest curve_number floor or_zero frost_after not_dry counted beyond_abstraction spread runoff
    excess wet_day dry_day soil_day today figure_of intercepted_of net_of rain_of store_of melt_of own_of runoff_of ground_of passed_of open_day land_day cell_day arriving water_from water
    single judged verdict one_each setup_lengths cover_places cover_fits state_fits too_deep day_tests passed own inflow facts_for facts_of facts_at reason_number holds reason_of
    with_depths explained explained_as why_tests why_of
why_figures =
    record {
      on_a_lake = refl;
      dry_lake = refl;
      under_snow_lem = refl;
      a_unit_of_snow = refl;
      no_water_lem = refl;
      no_potential = refl;
      a_unit = refl;
      just_below = refl;
      melted = refl;
      met = refl;
      room_before = refl;
      just_room = refl;
      a_unit_over = refl;
      at_the_largest = refl;
      above_it = refl;
      worked_above = refl;
      worked_below = refl;
      inflow_alone = refl;
      refused_day = refl;
      outside = refl;
      bad_cell_first = refl;
      before_a_ring = refl;
      ring_inside = refl;
      before_the_climate = refl;
      climate_inside = refl;
      before_the_day = refl;
      numbers = refl;
    }
