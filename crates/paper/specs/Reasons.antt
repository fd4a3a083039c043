-- Why this cell got that figure (02, M-105): of seven reasons the first that is true, and two depths.
use Rattle.std.specs.Prelude.{Bool, cond, ◌&&◌, List, [], ◌∷◌, ◌++◌, ℕ, ◌+◌, ◌-◌, eqb, leb, ltb, length}
use Rattle.paper.specs.Setup.{Setup, Cell, cell, cells}
use Rattle.paper.specs.State.{State, Day, soil_at, snow_at}
use Rattle.paper.specs.Soil.{excess}
use Rattle.paper.specs.CellDay.{Today, today, own_of, runoff_of, cell_day}
use Rattle.paper.specs.Refusals.{Refusal, cell_numbers, Verdict, accepted, refused, Test, verdict, single, setup_lengths, lent_first, table_tests, flow_tests, day_tests}
use Rattle.paper.specs.Day.{inflow}

-- what the rules say of one cell's day, and the reasons speak of
pub record Facts : Type 0 where
  pub open? : Bool
  pub gross : ℕ
  pub inflow : ℕ
  -- w, all the water that reached the ground
  pub water : ℕ
  pub end_snow : ℕ
  -- w less the runoff
  pub infiltration : ℕ
  pub potential : ℕ
  -- infiltration over potential evapotranspiration
  pub surplus : ℕ
  -- the capacity less the soil before the day
  pub room : ℕ
  -- rule 7's excess, how much of it recharged, and the cover's largest recharge
  pub excess : ℕ
  pub recharged : ℕ
  pub largest : ℕ

-- with water w, and infiltration n of it
unfoldable pub facts_for : Cell → Today → ℕ → ℕ → ℕ → ℕ → ℕ → Facts
facts_for c t soil snow inflow w n =
    record {
      open? = c.open?;
      gross = t.gross;
      inflow = inflow;
      water = w;
      end_snow = (cell_day c t soil snow inflow).snow;
      infiltration = n;
      potential = t.potential;
      surplus = n - t.potential;
      room = c.capacity - soil;
      excess = excess c.capacity soil n t.potential;
      recharged = (cell_day c t soil snow inflow).recharged;
      largest = c.largest;
    }

-- rules 4 and 6, as amended
unfoldable pub facts_of : Cell → Today → ℕ → ℕ → ℕ → Facts
facts_of c t soil snow inflow =
    facts_for c t soil snow inflow (own_of c t snow + inflow) (own_of c t snow + inflow - runoff_of c t (own_of c t snow + inflow))

pub data Reason : Type 0 where
  open_water : Reason
  under_snow : Reason
  no_water : Reason
  below_potential : Reason
  room_for_all : Reason
  above_largest : Reason
  all_recharged : Reason

-- the paper's order
unfoldable pub reason_number : Reason → ℕ
reason_number open_water = 1
reason_number under_snow = 2
reason_number no_water = 3
reason_number below_potential = 4
reason_number room_for_all = 5
reason_number above_largest = 6
reason_number all_recharged = 7

-- what each says
unfoldable pub holds : Reason → Facts → Bool
-- open water
holds open_water f = f.open?
-- no water reached the ground and snow lies at the day's end
holds under_snow f = eqb f.water 0 && ltb 0 f.end_snow
-- no water reached the ground
holds no_water f = eqb f.water 0
-- infiltration below potential evapotranspiration
holds below_potential f = ltb f.infiltration f.potential
-- the soil had room for all of it
holds room_for_all f = leb f.surplus f.room
-- excess above the cover's largest
holds above_largest f = ltb f.largest f.excess
-- all the excess recharged
holds all_recharged f = eqb f.recharged f.excess

-- the first true one
unfoldable pub reason_of : Facts → Reason
reason_of f =
    cond (holds open_water f) open_water
    (cond (holds under_snow f) under_snow
    (cond (holds no_water f) no_water
    (cond (holds below_potential f) below_potential
    (cond (holds room_for_all f) room_for_all
    (cond (holds above_largest f) above_largest
    all_recharged)))))

-- a reason with its two depths, or the refusal of the day
pub data Explanation : Type 0 where
  because : Reason → ℕ → ℕ → Explanation
  by_refusal : Refusal → Explanation

unfoldable pub with_depths : Facts → Reason → Explanation
with_depths f open_water = because open_water f.gross f.inflow
with_depths f under_snow = because under_snow f.water f.end_snow
with_depths f no_water = because no_water f.water f.end_snow
with_depths f below_potential = because below_potential f.infiltration f.potential
with_depths f room_for_all = because room_for_all f.surplus f.room
with_depths f above_largest = because above_largest f.excess f.largest
with_depths f all_recharged = because all_recharged f.excess f.largest

unfoldable pub explained : Facts → Explanation
explained f = with_depths f (reason_of f)

-- the tests of a day; a cell outside the grid is found with the cells of test 4, after them and before test 5
unfoldable pub why_tests : Setup → State → Day → ℕ → List Test
why_tests s st d i =
    lent_first s (setup_lengths s ++ length st.soil ∷ length st.snow ∷ [])
    (table_tests s ++ (single (ltb i (cells s)) (cell_numbers i) ∷ (flow_tests s ++ day_tests s st d)))

unfoldable pub facts_at : Setup → State → Day → ℕ → Facts
facts_at s st d i =
    facts_of (cell s i) (today s.climate st.past d) (soil_at st i) (snow_at st i)
    (inflow s st (today s.climate st.past d) i)

unfoldable pub explained_as : Facts → Verdict → Explanation
explained_as f accepted = explained f
explained_as f (refused why) = by_refusal why

-- why cell i got its figures on that day, from the state before it
unfoldable pub why_of : Setup → State → Day → ℕ → Explanation
why_of s st d i = explained_as (facts_at s st d i) (verdict (why_tests s st d i))
