-- Test 10 as the code asks it: by the snowfall of each slot, which stands in an array with six numbers a slot.
use Rattle.std.specs.Prelude.{◌≡◌, Bool, cond, List, [], ◌∷◌, ℕ, ◌+◌, ◌*◌, ◌<◌, min, ltb, length, get_or}
use Rattle.theory.specs.Sums.{given}
use Rattle.paper.specs.Limits.{most_cells, most_snow}
use Rattle.paper.specs.Covers.{entries}
use Rattle.paper.specs.Interception.{net}
use Rattle.paper.specs.CellDay.{Today}
use Rattle.paper.specs.Refusals.{Test, snowfall}
use Rattle.covers.specs.Slots.{open_at, season_at}

abbrev pub fall_by : List ℕ → ℕ → ℕ
fall_by plots slot = get_or plots (6 * slot + 2) 0

-- the snowfall would take cell i's store past its limit
unfoldable pub deep_by : List ℕ → List ℕ → List ℕ → ℕ → Bool
deep_by plots slots snow i = ltb most_snow (get_or snow i 0 + fall_by plots (get_or slots i 0))

-- of at most 4,096 stores: there are no slots for more
unfoldable pub snow_tests : List ℕ → List ℕ → List ℕ → List Test
snow_tests plots slots snow =
    record { places = min (length snow) most_cells; fails = deep_by plots slots snow; called = snowfall } ∷ []

-- the array has the day's snowfall of each slot of the table, which is 0 on open water
pub record Falls (covers plots : List ℕ) (t : Today) : Type 0 where
  pub each : (slot : ℕ) → slot < 4 * entries covers
      → fall_by plots slot ≡ cond (open_at covers slot) 0 (given t.snows? (net t.gross (season_at covers slot t.growing?)))
