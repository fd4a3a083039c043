-- The account of an accepted day: of each cell, then of the grid, since what a cell passes on is gone over the edge or arrives in the grid.
use mathlib.Core.Path.{◌≡◌, refl, sym, ap, ◌∙◌}
use mathlib.Core.Bool.{true}
use Prim.Native.Nat.{ℕ, ◌+◌, ◌≤◌, ◌<◌}
use native.Mathlib.Nat.{le_trans, add-zero, zero-add}
use native.Mathlib.Omega.{arith}
use lib.Dec.{ltb, lit≤}
use borrow.Author.Tests.{lt-ltb, le-ltb}
use Rattle.theory.specs.Sums.{sum, given}
use Rattle.theory.proofs.Cases.{by_cases, cond_true}
use Rattle.theory.proofs.ListLaws.{made_at}
use Rattle.theory.proofs.SumLaws.{sum_cong, sum_add}
use Rattle.paper.specs.Limits.{most_cells}
use Rattle.paper.specs.Directions.{Goes, to, leaves, stays, open_water}
use Rattle.paper.specs.Setup.{Setup, cell, cells, goes, is_open, is_closed, next, pointed}
use Rattle.paper.specs.State.{State, Day, most_soil_of, most_snow_of, soil_at, snow_at}
use Rattle.paper.specs.CellDay.{Today, today, passed_of, Figures}
use Rattle.paper.specs.Flow.{water}
use Rattle.paper.specs.Refusals.{accepted}
use Rattle.paper.specs.Day.{own, passed, inflow, figures, is_gone, is_leaving, Results, totals_of, next_state, Outcome, verdict_of, figures_of, outcome_as, day_of}
use Rattle.paper.specs.Run.{stored}
use Rattle.paper.proofs.CellDayLaws.{cell_account, day_outflow, passed_closed}
use Rattle.paper.proofs.FlowLaws.{arriving_inside}
use Rattle.paper.proofs.DayLaws.{SoundDay, sound_day, verdict_is, accepted_is, reached, small}
use Rattle.paper.proofs.SetupLaws.{goes_open, to_inside}

one_of : {n : ℕ} → n ≤ most_cells → (g : Goes) (x : ℕ) → ((j : ℕ) → g ≡ to j → j < n) → (g ≡ stays → x ≡ 0)
    → given (is_leaving g) x + given (ltb (pointed g) n) x ≡ x
unfolding given is_leaving pointed
one_of {n} few (to j) x inside none = rw (lt-ltb j n (inside j refl)) (zero-add x)
one_of {n} few leaves x inside none = rw (le-ltb 4096 n few) (add-zero x)
one_of {n} few stays x inside none = rw (le-ltb 4097 n (le_trans few (lit≤ tt))) (sym (none refl))
one_of {n} few open_water x inside none = rw (le-ltb 4098 n (le_trans few (lit≤ tt))) (add-zero x)

module _ (s : Setup) (st : State) (r : Results) (d : Day) (ok : SoundDay s st r d) where
  abbrev t : Today
  t = today s.climate st.past d

  abbrev n : ℕ
  n = cells s

  abbrev W : ℕ → ℕ
  W = water n (next s) (passed s st t) (own s st t)

  -- the outflow of a cell is what it passes on of its water
  pub outflow_is : (i : ℕ) → i < n → (figures_of s st d i).outflow ≡ passed s st t i (W i)
  unfolding figures_of figures passed own
  outflow_is i h =
      day_outflow (cell s i) t (soil_at st i) (snow_at st i) (inflow s st t i) ∙ ap (passed_of (cell s i) t (soil_at st i)) (sym (reached s st r d ok i h))

  closed_none : (i w : ℕ) → goes s i ≡ stays → passed s st t i w ≡ 0
  unfolding passed cell is_closed
  closed_none i w g =
      by_cases (is_open s i) (λ o. absurd (open_not_stays (sym (goes_open s ok.setup.charted i o) ∙ g)))
      (λ o. passed_closed (cell s i) t (soil_at st i) w o (ap is_closed g))
    where
      open_not_stays : open_water ≡ stays → ⊥
      open_not_stays e = let z : ◌≡◌ {A = ℕ} 0 1 = cc in omega arith

  -- what a cell passes on is gone or arrives in the grid, and a closed depression passes nothing on
  gone_or_inside : (i : ℕ) → i < n → (w : ℕ)
      → given (is_gone s i) (passed s st t i w) + given (ltb (next s i) n) (passed s st t i w) ≡ passed s st t i w
  unfolding is_gone next
  gone_or_inside i h w =
      one_of ok.setup.charted.few (goes s i) (passed s st t i w) (λ j. to_inside s ok.setup.charted i j h) (closed_none i w)

  inflows : sum n (inflow s st t) ≡ sum n (λ i. given (ltb (next s i) n) (figures_of s st d i).outflow)
  unfolding inflow
  inflows =
      arriving_inside n (next s) (passed s st t) W
      ∙ sum_cong n _ _ (λ i h. ap (given (ltb (next s i) n)) (sym (outflow_is i h)))

  outflows : sum n (λ i. (figures_of s st d i).outflow)
      ≡ sum n (λ i. given (is_gone s i) (figures_of s st d i).outflow) + sum n (inflow s st t)
  outflows =
      sum_cong n _ _ (λ i h. rw (outflow_is i h) (sym (gone_or_inside i h (W i))))
      ∙ sum_add n _ _
      ∙ ap (λ (x : ℕ). sum n (λ i. given (is_gone s i) (figures_of s st d i).outflow) + x) (sym inflows)

  -- open water holds nothing
  empty : (i : ℕ) → i < n → (cell s i).open? ≡ true → (soil_at st i ≡ 0) × (snow_at st i ≡ 0)
  unfolding most_soil_of most_snow_of
  empty i h o =
      let soil : soil_at st i ≤ 0 = rw (cond_true (cell s i).open? o) at (ok.soil i h) in
      let snow : snow_at st i ≤ 0 = rw (cond_true (cell s i).open? o) at (ok.snow i h) in
      (omega arith, omega arith)

  -- stores, gross precipitation and inflow of each cell
  each_account : (i : ℕ) → i < n → let f : Figures = figures_of s st d i in
      soil_at st i + snow_at st i + d.gross + inflow s st t i
      ≡ f.intercepted + f.evapotranspired + f.recharged + given (cell s i).closed? f.rejected + f.outflow + (f.soil + f.snow)
  unfolding figures_of figures today
  each_account i h =
      omega (arith, cell_account (cell s i) t (soil_at st i) (snow_at st i) (inflow s st t i) (small s st r d ok i h) (empty i h))

  -- the account of the day
  pub account : let f : ℕ → Figures = figures_of s st d in
      sum n (λ i. soil_at st i + snow_at st i) + sum n (λ i. d.gross)
      ≡ sum n (λ i. (f i).intercepted)
      + sum n (λ i. (f i).evapotranspired)
      + sum n (λ i. (f i).recharged)
      + sum n (λ i. given (cell s i).closed? (f i).rejected)
      + sum n (λ i. given (is_gone s i) (f i).outflow)
      + sum n (λ i. (f i).soil + (f i).snow)
  account =
      let f : ℕ → Figures = figures_of s st d in
      omega (
        arith,
        outflows,
        sum_cong n (λ i. soil_at st i + snow_at st i + d.gross + inflow s st t i)
            (λ i. (f i).intercepted + (f i).evapotranspired + (f i).recharged + given (cell s i).closed? (f i).rejected + (f i).outflow + ((f i).soil + (f i).snow))
            each_account,
        sum_add n (λ i. soil_at st i + snow_at st i + d.gross) (inflow s st t),
        sum_add n (λ i. soil_at st i + snow_at st i) (λ i. d.gross),
        sum_add n (λ i. (f i).intercepted + (f i).evapotranspired + (f i).recharged + given (cell s i).closed? (f i).rejected + (f i).outflow) (λ i. (f i).soil + (f i).snow),
        sum_add n (λ i. (f i).intercepted + (f i).evapotranspired + (f i).recharged + given (cell s i).closed? (f i).rejected) (λ i. (f i).outflow),
        sum_add n (λ i. (f i).intercepted + (f i).evapotranspired + (f i).recharged) (λ i. given (cell s i).closed? (f i).rejected),
        sum_add n (λ i. (f i).intercepted + (f i).evapotranspired) (λ i. (f i).recharged),
        sum_add n (λ i. (f i).intercepted) (λ i. (f i).evapotranspired),
      )

-- what the end state stores is the total of the day
pub stored_next : (s : Setup) (st : State) (d : Day) (f : ℕ → Figures)
    → stored s (next_state s st d f) ≡ sum (cells s) (λ i. (f i).soil + (f i).snow)
unfolding stored next_state
stored_next s st d f =
    sum_cong (cells s) _ _ (λ i h. rw (made_at (cells s) (λ j. (f j).soil) 0 i h, made_at (cells s) (λ j. (f j).snow) 0 i h) refl)

-- the account of every accepted day, in its own totals
pub record DayAccount (s : Setup) (before : State) (o : Outcome) : Type 0 where
  pub account :
      stored s before + o.totals.gross
      ≡ o.totals.intercepted
      + o.totals.evapotranspired
      + o.totals.recharged
      + o.totals.rejected
      + o.totals.gone
      + o.totals.stored
  pub stored_is : o.totals.stored ≡ stored s o.state

pub day_account : (s : Setup) (st : State) (r : Results) (d : Day) → (day_of s st r d).verdict ≡ accepted
    → DayAccount s st (day_of s st r d)
unfolding outcome_as totals_of stored
day_account s st r d e =
    let v : verdict_of s st r d ≡ accepted = sym (verdict_is s st r d) ∙ e in
    rw (accepted_is s st r d v)
    (record {
      account = account s st r d (sound_day s st r d v);
      stored_is = sym (stored_next s st d (figures_of s st d));
    })
