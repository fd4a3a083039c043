-- What all cells of one slot of the cover table share on a day: neither their available water nor their way has a say in it. It stands in one
-- array, six numbers a slot.
use Rattle.std.specs.Prelude.{cond, List, [], ◌∷◌, ℕ, ◌+◌, ◌*◌, ◌/◌, ◌%◌, min, leb, get_or}
use Rattle.theory.specs.Lists.{made_over}
use Rattle.theory.specs.Sums.{given}
use Rattle.paper.specs.Limits.{most_gross}
use Rattle.paper.specs.Covers.{entries}
use Rattle.paper.specs.Setup.{Cell}
use Rattle.paper.specs.State.{most_soil_of}
use Rattle.paper.specs.CurveNumber.{curve_number}
use Rattle.paper.specs.CellDay.{Today, intercepted_of, net_of, rain_of}
use Rattle.weather.specs.Conditions.{curve_number_by}
use Rattle.covers.specs.Slots.{group_number_at, cell_from}
use Rattle.covers.specs.declared.plots.SlotDay.{SlotDay}

-- rules 2 and 3 on land; on open water nothing is intercepted, and all of gross precipitation is rain
unfoldable pub caught_of : Today → Cell → ℕ
caught_of t c = cond c.open? 0 (intercepted_of c t)

unfoldable pub wet_of : Today → Cell → ℕ
wet_of t c = cond c.open? t.gross (rain_of c t)

unfoldable pub fall_of : Today → Cell → ℕ
fall_of t c = cond c.open? 0 (given t.snows? (net_of c t))

-- rule 5 on land
unfoldable pub curve_of : Today → Cell → ℕ
curve_of t c = cond c.open? 0 (curve_number t.condition c.N)

-- and as the code reads it of any table's number
unfoldable pub curve_by : Today → Cell → ℕ
curve_by t c = cond c.open? 0 (curve_number_by t.condition c.N)

-- the largest recharge
unfoldable pub drain_of : Cell → ℕ
drain_of c = cond c.open? 0 c.largest

-- a slot's numbers in the order of their places: intercepted, rain, snowfall, curve number, root depth, largest recharge
unfoldable pub shared_by : Today → List ℕ → ℕ → List ℕ
shared_by t covers slot =
    caught_of t (cell_from covers slot 0 0)
    ∷ wet_of t (cell_from covers slot 0 0)
    ∷ fall_of t (cell_from covers slot 0 0)
    ∷ curve_by t (cell_from covers slot 0 0)
    ∷ group_number_at covers 11 slot
    ∷ drain_of (cell_from covers slot 0 0)
    ∷ []

abbrev pub shared_as : SlotDay → List ℕ
shared_as r =
    r.intercepted
    ∷ r.rain
    ∷ r.snowfall
    ∷ r.curve_number
    ∷ r.root_depth
    ∷ r.largest_recharge
    ∷ []

-- number i of the array
unfoldable pub plot_number : Today → List ℕ → ℕ → ℕ
plot_number t covers i = get_or (shared_by t covers (i / 6)) (i % 6) 0

-- the array after a day's filling: the slots that the table has, up to 256; on a day with more than the most gross precipitation it is as it was
unfoldable pub plots_of : Today → List ℕ → List ℕ → List ℕ
plots_of t covers before =
    cond (leb t.gross most_gross) (made_over (6 * min 256 (4 * entries covers)) (plot_number t covers) before) before

-- what the rules read of one cell's ground on a day
pub record Plot : Type 0 where
  pub intercepted : ℕ
  pub rain : ℕ
  pub snowfall : ℕ
  pub curve : ℕ
  pub capacity : ℕ
  pub largest : ℕ

-- by the rules, of a cell
unfoldable pub plot_for : Today → Cell → Plot
plot_for t c =
    record {
      intercepted = caught_of t c;
      rain = wet_of t c;
      snowfall = fall_of t c;
      curve = curve_of t c;
      capacity = most_soil_of c;
      largest = drain_of c;
    }

-- number k of a slot
abbrev pub plot_at : List ℕ → ℕ → ℕ → ℕ
plot_at plots slot k = get_or plots (6 * slot + k) 0

-- the slot's numbers, and the most that the soil holds with that available water
unfoldable pub plot_by : List ℕ → ℕ → ℕ → Plot
plot_by plots slot available =
    record {
      intercepted = plot_at plots slot 0;
      rain = plot_at plots slot 1;
      snowfall = plot_at plots slot 2;
      curve = plot_at plots slot 3;
      capacity = available * plot_at plots slot 4;
      largest = plot_at plots slot 5;
    }
