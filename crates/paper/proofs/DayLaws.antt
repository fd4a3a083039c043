-- An accepted day: what its tests leave standing, the water of its cells, and its end, which is within the limits again.
use mathlib.Core.Path.{◌≡◌, refl, sym, ap, ◌∙◌}
use mathlib.Core.Bool.{Bool, true, false, not, ◌&&◌, true≢false}
use mathlib.Core.List.{◌++◌}
use Prim.Native.Nat.{ℕ, suc, ◌+◌, ◌≤◌, ◌<◌}
use native.Mathlib.Nat.{le_refl, le_trans, zero-lt-suc, lt-suc_self, le_of_lt, mul-le-mul_right}
use native.Mathlib.Omega.{arith}
use lib.Dec.{eqb, leb, ltb, lit<}
use lib.ListN.{length}
use lib.Signed.{le_z}
use borrow.Author.Tests.{leb-true, ltb-true, ltb-false, eqb-true, not-false, lt-ltb, le-ltb, le-leb}
use Rattle.theory.specs.Sums.{sum}
use Rattle.theory.specs.Ways.{UpslopeFirst}
use Rattle.theory.proofs.Cases.{by_cases, and_left, and_right, and_both, cond_true, cond_false}
use Rattle.theory.proofs.ListLaws.{made_at}
use Rattle.theory.proofs.SumLaws.{sum_most}
use Rattle.paper.specs.Limits.{most_snow, most_gross, most_frost, least_temperature}
use Rattle.paper.specs.Setup.{Setup, cell, cells, next}
use Rattle.paper.specs.State.{State, Day, most_soil_of, most_snow_of, soil_at, snow_at, stores_fit, memory_fits, last_fits, past_fits, day_fits, follows, remembered, serial, past_after}
use Rattle.paper.specs.CurveNumber.{curve_number}
use Rattle.paper.specs.CellDay.{Today, today, rain_of, store_of, melt_of}
use Rattle.paper.specs.Flow.{water}
use Rattle.paper.specs.Refusals.{Refusal, Verdict, accepted, refused, single, one_each, setup_lengths, setup_tests, map_tests, state_fits, too_deep, day_tests}
use Rattle.paper.specs.Day.{own, passed, inflow, figures, Results, no_totals, next_state, lengths_of, verdict_of, figures_of, outcome_as, day_of}
use Rattle.paper.proofs.SnowLaws.{melt_most}
use Rattle.paper.proofs.CurveNumberLaws.{curve_number_limits}
use Rattle.paper.proofs.FrostLaws.{frost_kept}
use Rattle.paper.proofs.CellDayLaws.{end_soil, end_snow_lem, own_most, passed_most, outflow_at_most}
use Rattle.paper.proofs.FlowLaws.{water_reached, water_most}
use Rattle.paper.proofs.RefusalLaws.{Passes, test_at, accepted_passes}
use Rattle.paper.proofs.SetupLaws.{Sound, sound, SoundCell, sound_cell, upslope}

-- what tests 1 to 10 leave standing
pub record SoundDay (s : Setup) (st : State) (r : Results) (d : Day) : Type 0 where
  pub setup : Sound s (lengths_of s st r)
  pub day : day_fits d ≡ true
  pub serial : follows st.past.last d.serial ≡ true
  pub soil : (i : ℕ) → i < cells s → soil_at st i ≤ most_soil_of (cell s i)
  pub snow : (i : ℕ) → i < cells s → snow_at st i ≤ most_snow_of (cell s i)
  pub memory : memory_fits st.past.memory ≡ true
  pub last : last_fits st.past.last ≡ true
  pub frost : st.past.frost ≤ most_frost
  pub room : (i : ℕ) → i < cells s → (cell s i).open? ≡ false
      → store_of (cell s i) (today s.climate st.past d) (snow_at st i) ≤ most_snow

not_and : (a b : Bool) → a ≡ false → (not a && b) ≡ false → b ≡ false
not_and true b e f = absurd (true≢false e)
not_and false b e f = f

module _ (s : Setup) (st : State) (r : Results) (d : Day) (e : verdict_of s st r d ≡ accepted) where
  day_passes : (k : ℕ) → k < 10 → Passes (test_at (setup_tests s (lengths_of s st r) ++ day_tests s st d) k)
  unfolding setup_tests map_tests day_tests verdict_of
  day_passes k h = accepted_passes (setup_tests s (lengths_of s st r) ++ day_tests s st d) e k h

  state_fits_lem : (i : ℕ) → i < suc (cells s) → state_fits s st i ≡ true
  unfolding setup_tests map_tests day_tests test_at Passes
  state_fits_lem i h = not-false _ (day_passes 8 (lit< tt) i h)

  stores_fit_lem : (i : ℕ) → i < cells s → stores_fit s st i ≡ true
  unfolding state_fits
  stores_fit_lem i h =
      sym (cond_true (ltb i (cells s)) (lt-ltb i (cells s) h) _ _) ∙ state_fits_lem i (le_trans h (le_of_lt (lt-suc_self (cells s))))

  past_fits_lem : past_fits st.past ≡ true
  unfolding state_fits
  past_fits_lem =
      sym (cond_false (ltb (cells s) (cells s)) (le-ltb (cells s) (cells s) (le_refl (cells s))) _ _)
      ∙ state_fits_lem (cells s) (lt-suc_self (cells s))

  pub sound_day : SoundDay s st r d
  unfolding setup_tests map_tests day_tests test_at Passes stores_fit past_fits too_deep single verdict_of
  sound_day =
      record {
        setup = sound s (lengths_of s st r) (day_tests s st d) e;
        day = not-false _ (day_passes 6 (lit< tt) 0 (zero-lt-suc 0));
        serial = not-false _ (day_passes 7 (lit< tt) 0 (zero-lt-suc 0));
        soil = λ i h. leb-true _ _ (and_left _ _ (stores_fit_lem i h));
        snow = λ i h. leb-true _ _ (and_right (leb (soil_at st i) (most_soil_of (cell s i))) _ (stores_fit_lem i h));
        memory = and_left _ _ (and_left _ _ past_fits_lem);
        last = and_right (memory_fits st.past.memory) _ (and_left _ _ past_fits_lem);
        frost = leb-true _ _ (and_right (memory_fits st.past.memory && last_fits st.past.last) _ past_fits_lem);
        room = λ i h land. ltb-false _ _ (not_and _ _ land (day_passes 9 (lit< tt) i h));
      }

-- the answer's verdict is the tests', and an accepted day's parts are those of its figures
pub verdict_is : (s : Setup) (st : State) (r : Results) (d : Day) → (day_of s st r d).verdict ≡ verdict_of s st r d
unfolding day_of
verdict_is s st r d = go (verdict_of s st r d)
  where
    go : (v : Verdict) → (outcome_as s st r d v).verdict ≡ v
    go accepted = unfold outcome_as in refl
    go (refused why) = unfold outcome_as in refl

pub accepted_is : (s : Setup) (st : State) (r : Results) (d : Day) → verdict_of s st r d ≡ accepted
    → day_of s st r d ≡ outcome_as s st r d accepted
unfolding day_of
accepted_is s st r d e = ap (outcome_as s st r d) e

-- a refused day hands back what it was given
pub refused_is : (s : Setup) (st : State) (r : Results) (d : Day) (why : Refusal) → verdict_of s st r d ≡ refused why
    → day_of s st r d ≡ record { verdict = refused why; results = r; totals = no_totals; state = st }
unfolding day_of outcome_as
refused_is s st r d why e = ap (outcome_as s st r d) e

module _ (s : Setup) (st : State) (r : Results) (d : Day) (ok : SoundDay s st r d) where
  abbrev t : Today
  t = today s.climate st.past d

  abbrev n : ℕ
  n = cells s

  abbrev W : ℕ → ℕ
  W = water n (next s) (passed s st t) (own s st t)

  -- the lent slices have one entry a cell
  pub direction_each : length s.direction ≡ n
  unfolding lengths_of setup_lengths one_each
  direction_each = eqb-true _ _ (and_left _ _ ok.setup.lent)

  pub cover_each : length s.cover ≡ n
  unfolding lengths_of setup_lengths one_each
  cover_each = eqb-true _ _ (and_left _ _ (and_right (eqb (length s.direction) n) _ ok.setup.lent))

  -- each cell's curve number is at most 100
  pub small : (i : ℕ) → i < n → curve_number t.condition (cell s i).N ≤ 100
  small i h =
      let known : SoundCell (cell s i) = sound_cell s ok.setup.charted i h in
      (curve_number_limits t.condition (cell s i).N known.least_N known.most_N).most

  pub order : UpslopeFirst n (next s)
  order = upslope s (lengths_of s st r) ok.setup direction_each cover_each

  -- the water that reaches a cell is its own and its inflow
  pub reached : (i : ℕ) → i < n → W i ≡ own s st t i + inflow s st t i
  unfolding inflow
  reached i h = water_reached n (next s) (passed s st t) order (own s st t) i h

  -- within the limits no cell's own water passes 450,000 units, so that no cell's water reaches 2,000,000,000
  gross_limit : d.gross ≤ most_gross
  unfolding day_fits
  gross_limit = leb-true _ _ (let fits : day_fits d ≡ true = ok.day in search (and_left, and_right) depth 9)

  melt_limit_lem : t.meltable ≤ 50000
  unfolding today day_fits
  melt_limit_lem = melt_most d.maximum (let fits : day_fits d ≡ true = ok.day in search (and_left, and_right) depth 9)

  pub own_limit : (i : ℕ) → own s st t i ≤ 450000
  unfolding own today
  own_limit i = omega (arith, own_most (cell s i) t (snow_at st i), gross_limit, melt_limit_lem)

  pub all_own : sum n (own s st t) < 2000000000
  all_own =
      omega (arith, sum_most n (own s st t) 450000 (λ i h. own_limit i), mul-le-mul_right 450000 ok.setup.charted.few)

  pub water_limit_lem : (i : ℕ) → i < n → W i < 2000000000
  water_limit_lem i h =
      omega (
        arith,
        all_own,
        water_most n (next s) (passed s st t) order
            (λ j w hj. unfold passed in passed_most (cell s j) t (small j hj) (soil_at st j) w (ok.soil j hj)) (own s st t) i h,
      )

  -- no outflow passes w, open water aside
  pub outflow_limit : (i : ℕ) → i < n → (cell s i).open? ≡ false
      → (figures_of s st d i).outflow ≤ rain_of (cell s i) t + melt_of (cell s i) t (snow_at st i) + inflow s st t i
  unfolding figures_of figures
  outflow_limit i h land = outflow_at_most (cell s i) t (small i h) (soil_at st i) (snow_at st i) (inflow s st t i) land (ok.soil i h)

  kept_memory : memory_fits (remembered st.past.memory d.gross) ≡ true
  unfolding memory_fits remembered
  kept_memory =
      let fits : memory_fits st.past.memory ≡ true = ok.memory in
      let today : leb d.gross most_gross ≡ true = le-leb _ _ gross_limit in
      search (and_left, and_right, and_both) depth 9

  kept_serial : last_fits (serial d.serial) ≡ true
  unfolding last_fits day_fits
  kept_serial = let fits : day_fits d ≡ true = ok.day in search (and_left, and_right) depth 9

  -- the index that the day hands on is within its limit again
  pub kept_frost : (past_after st.past d).frost ≤ most_frost
  unfolding day_fits
  kept_frost =
      let fits : day_fits d ≡ true = ok.day in
      let cold : le_z least_temperature d.mean ≡ true = search (and_left, and_right) depth 12 in
      omega (arith, frost_kept st.past.frost d.mean ok.frost cold)

  -- an accepted day keeps the state within its limits
  pub kept_soil : (i : ℕ) → i < n → (figures_of s st d i).soil ≤ most_soil_of (cell s i)
  unfolding figures_of figures
  kept_soil i h = end_soil (cell s i) t (soil_at st i) (snow_at st i) (inflow s st t i) (ok.soil i h)

  pub kept_snow : (i : ℕ) → i < n → (figures_of s st d i).snow ≤ most_snow_of (cell s i)
  unfolding figures_of figures most_snow_of
  kept_snow i h = end_snow_lem (cell s i) t (soil_at st i) (snow_at st i) (inflow s st t i) most_snow (ok.room i h)

  pub kept_state : (i : ℕ) → i < suc n → state_fits s (next_state s st d (figures_of s st d)) i ≡ true
  unfolding state_fits next_state stores_fit past_fits
  kept_state i h =
      by_cases (ltb i n)
      (λ e.
      let inside : i < n = ltb-true i n e in
      let soil : soil_at (next_state s st d (figures_of s st d)) i ≤ most_soil_of (cell s i)
      = rw (made_at n (λ j. (figures_of s st d j).soil) 0 i inside) (kept_soil i inside) in
      let snow : snow_at (next_state s st d (figures_of s st d)) i ≤ most_snow_of (cell s i)
      = rw (made_at n (λ j. (figures_of s st d j).snow) 0 i inside) (kept_snow i inside) in
      rw (cond_true (ltb i n) e) (and_both _ _ (le-leb _ _ soil) (le-leb _ _ snow)))
      (λ e. rw (cond_false (ltb i n) e) (and_both _ _ (and_both _ _ kept_memory kept_serial) (le-leb _ _ kept_frost)))
