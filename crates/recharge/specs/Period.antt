-- A period as a call hands it over and back: seven numbers a day, five sums a cell, and seven totals a day.
use Rattle.std.specs.Prelude.{Bool, cond, ◌&&◌, List, [], ◌∷◌, ◌++◌, ◌≡◌, ℕ, ◌+◌, ◌*◌, ◌/◌, ◌%◌, ◌≤◌, ◌<◌, eqb, ltb, ℤ, length, get_or, Ok}
use Rattle.std.proofs.lemmas.List.Edits.{sets}
use Rattle.paper.specs.Setup.{Setup, cells, grid_fits}
use Rattle.paper.specs.State.{State, Day, fresh_state, no_past}
use Rattle.paper.specs.Refusals.{Refusal, Verdict, accepted, refused, grid, lent, single, verdict, one_each, setup_lengths, map_tests}
use Rattle.paper.specs.Day.{Results, check_of}
use Rattle.paper.specs.Period.{fresh_run, after, outcome_on, AllAccepted, summed}
use Rattle.records.specs.Past.{past_as, state_as}
use Rattle.records.specs.Verdicts.{verdict_as}
use Rattle.daybook.specs.Days.{day_in}
use Rattle.daybook.specs.Totals.{ledger}
use Rattle.recharge.specs.Totals.{roomy}
use Rattle.recharge.specs.declared.periods.Ended.{Ended}

-- sums that have room for a day's figures, each of which fits 32 bits
pub record SumsRoom (sums : List ℕ) : Type 0 where
  pub few : length sums ≤ 5 * 4096
  pub each : (m : ℕ) → get_or sums m 0 ≤ roomy

-- figures added to the sums from a place on, the first i of them
pub record Added (from i : ℕ) (figures before after : List ℕ) : Type 0 where
  pub kept : length after ≡ length before
  pub done : (j : ℕ) → j < i → get_or after (from + j) 0 ≡ get_or before (from + j) 0 + get_or figures j 0
  pub ahead : (j : ℕ) → i ≤ j → get_or after (from + j) 0 ≡ get_or before (from + j) 0
  pub below : (m : ℕ) → m < from → get_or after m 0 ≡ get_or before m 0
  pub most : (m : ℕ) → get_or after m 0 ≤ get_or before m 0 + 4294967295

-- five sums of n cells, and a day's figures of as many
pub record Addable (n : ℕ) (sums : List ℕ) (r : Results) : Type 0 where
  pub few : n ≤ 4096
  pub sized : length sums ≡ 5 * n
  pub room : (m : ℕ) → get_or sums m 0 + 5 * 4294967295 ≤ roomy
  pub intercepted : length r.intercepted ≡ n
  pub outflow : length r.outflow ≡ n
  pub evapotranspired : length r.evapotranspired ≡ n
  pub recharged : length r.recharged ≡ n
  pub rejected : length r.rejected ≡ n

-- the figures of a day added to the five sums of n cells
pub record DayAdded (n : ℕ) (r : Results) (before after : List ℕ) : Type 0 where
  pub kept : length after ≡ length before
  pub intercepted : (i : ℕ) → i < n → get_or after i 0 ≡ get_or before i 0 + get_or r.intercepted i 0
  pub outflow : (i : ℕ) → i < n → get_or after (n + i) 0 ≡ get_or before (n + i) 0 + get_or r.outflow i 0
  pub evapotranspired : (i : ℕ) → i < n → get_or after (2 * n + i) 0 ≡ get_or before (2 * n + i) 0 + get_or r.evapotranspired i 0
  pub recharged : (i : ℕ) → i < n → get_or after (3 * n + i) 0 ≡ get_or before (3 * n + i) 0 + get_or r.recharged i 0
  pub rejected : (i : ℕ) → i < n → get_or after (4 * n + i) 0 ≡ get_or before (4 * n + i) 0 + get_or r.rejected i 0
  pub most : (m : ℕ) → get_or after m 0 ≤ get_or before m 0 + 5 * 4294967295

-- each cell's five sums over the first k days: of all cells what was intercepted, then what flowed out, and so on
pub record SumsOf (s : Setup) (day : ℕ → Day) (k : ℕ) (sums : List ℕ) : Type 0 where
  pub sized : length sums ≡ 5 * cells s
  pub intercepted : (i : ℕ) → i < cells s → get_or sums i 0 ≡ summed s (fresh_run s) day (λ r. r.intercepted) k i
  pub outflow : (i : ℕ) → i < cells s → get_or sums (cells s + i) 0 ≡ summed s (fresh_run s) day (λ r. r.outflow) k i
  pub evapotranspired : (i : ℕ) → i < cells s → get_or sums (2 * cells s + i) 0 ≡ summed s (fresh_run s) day (λ r. r.evapotranspired) k i
  pub recharged : (i : ℕ) → i < cells s → get_or sums (3 * cells s + i) 0 ≡ summed s (fresh_run s) day (λ r. r.recharged) k i
  pub rejected : (i : ℕ) → i < cells s → get_or sums (4 * cells s + i) 0 ≡ summed s (fresh_run s) day (λ r. r.rejected) k i

-- whole days, five sums a cell, and as many totals as numbers of days
unfoldable pub lists_fit : ℕ → ℕ → ℕ → ℕ → Bool
lists_fit n days sums totals = eqb (days % 7) 0 && eqb sums (5 * n) && eqb totals days

-- tests 1 to 6, where test 2 is of these lists too
unfoldable pub opening : Setup → List ℕ → List ℕ → Bool → Verdict
opening s soil snow lists =
    verdict
    (single (grid_fits s.grid) grid
    ∷ single (one_each (cells s) (setup_lengths s ++ length soil ∷ length snow ∷ []) && lists) lent
    ∷ map_tests s)

-- what a period begins with: a setup that passed, a fresh state and lists that fit
pub record Begun (s : Setup) (ns : List ℤ) (st : State) (sums totals : List ℕ) : Type 0 where
  pub passed : check_of s ≡ accepted
  pub fresh : st ≡ fresh_state s
  pub sized : length sums ≡ 5 * cells s
  pub room : length totals ≡ length ns

-- the verdict of day k, if there is one
unfoldable pub verdict_at : Setup → List ℤ → ℕ → Verdict
verdict_at s ns k = cond (ltb k (length ns / 7)) (outcome_on s (fresh_run s) (day_in ns) k).verdict accepted

-- what a period leaves that has begun: all days are accepted up to the first that is not; stores, sums and totals are those of the accepted days
pub record Went (s : Setup) (ns : List ℤ) (totals₀ : List ℕ) (r : Ended) (soil snow sums totals : List ℕ) : Type 0 where
  pub within : r.days ≤ length ns / 7
  pub before : AllAccepted s (fresh_run s) (day_in ns) r.days
  pub verdict_is : verdict_as r.verdict ≡ verdict_at s ns r.days
  pub whole : r.verdict ≡ Ok tt → r.days ≡ length ns / 7
  pub state_is : state_as soil snow r.past ≡ (after s (fresh_run s) (day_in ns) r.days).state
  pub sums_are : SumsOf s (day_in ns) r.days sums
  pub totals_are : totals ≡ sets totals₀ 0 (ledger (λ j. (outcome_on s (fresh_run s) (day_in ns) j).totals) r.days)

-- one that has not: nothing lent has changed
pub record Unbegun (why : Refusal) (soil₀ snow₀ sums₀ totals₀ : List ℕ) (r : Ended) (soil snow sums totals : List ℕ) : Type 0 where
  pub verdict_is : verdict_as r.verdict ≡ refused why
  pub no_days : r.days ≡ 0
  pub no_past_lem : past_as r.past ≡ no_past
  pub soil_kept : soil ≡ soil₀
  pub snow_kept : snow ≡ snow₀
  pub sums_kept : sums ≡ sums₀
  pub totals_kept : totals ≡ totals₀

-- the call's promise
pub record Periods (s : Setup) (ns : List ℤ) (soil₀ snow₀ sums₀ totals₀ : List ℕ) (r : Ended) (soil snow sums totals : List ℕ) : Type 0 where
  pub unbegun :
      (why : Refusal) → opening s soil₀ snow₀ (lists_fit (cells s) (length ns) (length sums₀) (length totals₀)) ≡ refused why
      → Unbegun why soil₀ snow₀ sums₀ totals₀ r soil snow sums totals
  pub went :
      opening s soil₀ snow₀ (lists_fit (cells s) (length ns) (length sums₀) (length totals₀)) ≡ accepted
      → Went s ns totals₀ r soil snow sums totals
