-- For the slots of a surveyed setup tests 9 and 10 by slots are the paper's: a cell's slot has the cell's own limits, and where no store is past its
-- limit open water, on which nothing falls, is not too deep.
use mathlib.Core.Path.{◌≡◌, refl, sym, ap, ◌∙◌}
use mathlib.Core.Bool.{Bool, true, cond, not, ◌&&◌}
use mathlib.Core.List.{List, [], ◌∷◌}
use Prim.Native.Nat.{ℕ, suc, ◌+◌, ◌≤◌, ◌<◌, min}
use native.Mathlib.Nat.{add-zero, zero-lt-suc, le_step, le_refl, lt-suc_self}
use native.Mathlib.Omega.{arith}
use lib.Dec.{leb, ltb}
use lib.ListN.{length, get_or}
use borrow.Author.Tests.{le-leb, le-ltb, lt-ltb, leb-true, eq-eqb, not-false}
use Rattle.theory.specs.Lists.{made_over}
use Rattle.theory.specs.Lowest.{Found}
use Rattle.theory.specs.Sums.{given}
use Rattle.theory.proofs.Cases.{by_cases, below_or_not, cond_true, cond_false, and_left, and_right, and_both}
use Rattle.theory.proofs.LowestLaws.{lowest_cong}
use Rattle.paper.specs.Limits.{most_snow}
use Rattle.paper.specs.Interception.{net}
use Rattle.paper.specs.Setup.{Setup, Cell, cell, cells, grid_fits, next}
use Rattle.paper.specs.State.{State, stores_fit, most_soil_of, most_snow_of, soil_at, snow_at, memory_fits, past_fits}
use Rattle.paper.specs.CellDay.{Today, figure_of, net_of, store_of}
use Rattle.paper.specs.Refusals.{Refusal, Test, accepted, judged, verdict, state_at, snowfall, one_each, state_fits, too_deep}
use Rattle.paper.specs.Day.{check_of}
use Rattle.paper.proofs.SetupLaws.{Charted}
use Rattle.paper.proofs.RefusalLaws.{Passes, test_at, accepted_passes}
use Rattle.covers.specs.Table.{EntriesFit}
use Rattle.covers.specs.Slots.{open_at, season_at, cell_from}
use Rattle.survey.specs.Charts.{slot_of, SlotsFit}
use Rattle.survey.proofs.CellLaws.{cell_is}
use Rattle.survey.proofs.MapLaws.{sound_setup, waters_each, slot_at_lem, slots_fit}
use Rattle.stores.specs.States.{stores_from, stores_at, state_tests}
use Rattle.stores.specs.Snowfall.{Falls, fall_by, deep_by, snow_tests}
use Rattle.stores.proofs.StateLaws.{test_nine}

-- a setup that passed tests 1 to 6, with its slots, over whatever the array held, and a store an entry a cell
pub record Testable (s : Setup) (st : State) (slots : List ℕ) : Type 0 where
  pub passed : check_of s ≡ accepted
  pub lent : List ℕ
  pub slots_are : slots ≡ made_over (cells s) (slot_of s) lent
  pub slots_sized : length slots ≡ 4096
  pub soils : length st.soil ≡ cells s
  pub snows : length st.snow ≡ cells s

-- the paper's tests 9 and 10
abbrev pub ninth : Setup → State → Test
ninth s st = record { places = suc (cells s); fails = λ i. not (state_fits s st i); called = state_at }

abbrev pub tenth : Setup → State → Today → Test
tenth s st t = record { places = cells s; fails = λ i. too_deep (cell s i) t (snow_at st i); called = snowfall }

-- a state that passes test 9 has a memory within its limits
pub memory_kept : (s : Setup) (st : State) → verdict (ninth s st ∷ []) ≡ accepted → memory_fits st.past.memory ≡ true
unfolding Passes test_at state_fits past_fits
memory_kept s st v =
    let stands : state_fits s st (cells s) ≡ true = not-false _ (accepted_passes (ninth s st ∷ []) v 0 (zero-lt-suc 0) (cells s) (lt-suc_self (cells s))) in
    and_left _ _ (and_left _ _ (sym (cond_false (ltb (cells s) (cells s)) (le-ltb (cells s) (cells s) (le_refl (cells s))) _ _) ∙ stands))

-- two tests of the same places that fail alike
alike : (n : ℕ) (f g : ℕ → Bool) (called : ℕ → Refusal) → ((i : ℕ) → i < n → f i ≡ g i)
    → verdict (record { places = n; fails = f; called = called } ∷ []) ≡ verdict (record { places = n; fails = g; called = called } ∷ [])
unfolding verdict
alike n f g called same = ap (λ (x : Found). judged x called accepted) (lowest_cong n f g same)

-- any way serves
stores_any : (covers : List ℕ) (slot available way soil snow : ℕ)
    → stores_from covers slot available soil snow
    ≡ (leb soil (most_soil_of (cell_from covers slot available way)) && leb snow (most_snow_of (cell_from covers slot available way)))
unfolding stores_from most_soil_of most_snow_of cell_from
stores_any covers slot available way soil snow = refl

deep_any : (covers : List ℕ) (slot available way : ℕ) (t : Today) (fall snow : ℕ)
    → fall ≡ cond (open_at covers slot) 0 (given t.snows? (net t.gross (season_at covers slot t.growing?))) → snow ≤ most_snow
    → ltb most_snow (snow + fall) ≡ too_deep (cell_from covers slot available way) t snow
unfolding too_deep store_of net_of figure_of cell_from season_at
deep_any covers slot available way t fall snow e h =
    by_cases (open_at covers slot)
    (λ o. let none : fall ≡ 0 = e ∙ cond_true (open_at covers slot) o _ _ in rw (none, add-zero snow, o) (le-ltb most_snow snow h))
    (λ o. let falls = e ∙ cond_false (open_at covers slot) o _ _ in rw (falls, o) refl)

snow_within : (c : Cell) (snow : ℕ) → snow ≤ most_snow_of c → snow ≤ most_snow
unfolding most_snow_of
snow_within c snow h =
    by_cases c.open? (λ e. omega (arith, rw (cond_true c.open? e) at h)) (λ e. rw (cond_false c.open? e) at h)

module _ (s : Setup) (st : State) (slots : List ℕ) (ok : Testable s st slots) where
  charted : Charted s
  charted = (sound_setup s ok.passed).charted

  waters : length s.available ≡ cells s
  waters = waters_each s ok.passed

  fits : grid_fits s.grid ≡ true
  unfolding grid_fits
  fits = and_both _ _ (and_both _ _ (le-leb _ _ charted.wide) (le-leb _ _ charted.high)) (le-leb _ _ charted.few)

  each : one_each (cells s) (length s.available ∷ length st.soil ∷ length st.snow ∷ []) ≡ true
  unfolding one_each
  each = and_both _ _ (eq-eqb _ _ waters) (and_both _ _ (eq-eqb _ _ ok.soils) (and_both _ _ (eq-eqb _ _ ok.snows) refl))

  slotted : SlotsFit s.covers (cells s) slots s.available
  slotted = slots_fit s charted ok.lent slots ok.slots_are ok.slots_sized waters

  pub table : EntriesFit s.covers
  table = slotted.table

  cell_of : (i : ℕ) → i < cells s → cell_from s.covers (get_or slots i 0) (get_or s.available i 0) (next s i) ≡ cell s i
  cell_of i h = rw (slot_at_lem s charted ok.lent slots ok.slots_are ok.slots_sized waters i h) (sym (cell_is s charted i h))

  stores_same : (i : ℕ) → i < cells s → stores_at s.covers slots s.available st.soil st.snow i ≡ stores_fit s st i
  unfolding stores_at stores_fit
  stores_same i h =
      stores_any s.covers (get_or slots i 0) (get_or s.available i 0) (next s i) (soil_at st i) (snow_at st i)
      ∙ ap (λ (c : Cell). leb (soil_at st i) (most_soil_of c) && leb (snow_at st i) (most_snow_of c)) (cell_of i h)

  state_same : (i : ℕ)
      → cond (ltb i (cells s)) (stores_at s.covers slots s.available st.soil st.snow i) (past_fits st.past) ≡ state_fits s st i
  unfolding state_fits
  state_same i =
      below_or_not i (cells s)
      (λ h. rw (lt-ltb i (cells s) h) (stores_same i h))
      (λ h. rw (le-ltb i (cells s) h) refl)

  -- test 9 by slots is the paper's
  pub state_paper : verdict (state_tests s.grid s.covers slots s.available st.soil st.snow st.past) ≡ verdict (ninth s st ∷ [])
  state_paper =
      test_nine s.grid s.covers slots s.available st.soil st.snow st.past fits each
      ∙ alike (suc (cells s)) _ _ state_at (λ i h. ap not (state_same i))

  module _ (kept : verdict (state_tests s.grid s.covers slots s.available st.soil st.snow st.past) ≡ accepted) where
    lying : (i : ℕ) → i < cells s → snow_at st i ≤ most_snow
    unfolding Passes test_at state_fits stores_fit
    lying i h =
        let stands : state_fits s st i ≡ true
        = not-false _ (accepted_passes (ninth s st ∷ []) (sym state_paper ∙ kept) 0 (zero-lt-suc 0) i (le_step h)) in
        let stores = sym (cond_true (ltb i (cells s)) (lt-ltb i (cells s) h) _ _) ∙ stands in
        snow_within (cell s i) (snow_at st i) (leb-true _ _ (and_right (leb (soil_at st i) (most_soil_of (cell s i))) _ stores))

    -- and so is test 10, where the array has the day's snowfalls and test 9 passed
    pub snow_paper : (plots : List ℕ) (t : Today) → Falls s.covers plots t
        → verdict (snow_tests plots slots st.snow) ≡ verdict (tenth s st t ∷ [])
    unfolding snow_tests deep_by
    snow_paper plots t falls =
        let few : cells s ≤ 4096 = charted.few in
        let all : min (length st.snow) 4096 ≡ cells s = omega (arith, ok.snows) in
        ap (λ (n : ℕ). verdict (record { places = n; fails = deep_by plots slots st.snow; called = snowfall } ∷ [])) all
        ∙ alike (cells s) _ _ snowfall
        (λ i h. deep_any s.covers (get_or slots i 0) (get_or s.available i 0) (next s i) t (fall_by plots (get_or slots i 0)) (snow_at st i)
        (falls.each (get_or slots i 0) (slotted.slotted i h)) (lying i h)
        ∙ ap (λ (c : Cell). too_deep c t (snow_at st i)) (cell_of i h))
