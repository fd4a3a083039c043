-- One cell's day: it is no smaller in any figure where gross precipitation, inflow, soil and snow are no smaller, and its account is an
-- equation. Each figure is put together from rules that rise: net and interception with gross, the store and what it keeps after the melt
-- with snow, runoff and infiltration with the water, rules 7 and 8 with infiltration and soil, and so the outflow. Rejected recharge runs on or leaves
-- the balance, never both: outflow and what leaves are together runoff and rejected recharge, neither of which is water twice.
use mathlib.Core.Path.{◌≡◌, refl, sym, ap, ◌∙◌, subst⁻¹, fun_ext}
use mathlib.Core.Bool.{true, false, cond, not}
use Prim.Native.Nat.{ℕ, ◌+◌, ◌-◌, ◌≤◌, zero-le}
use native.Mathlib.Nat.{le_trans, le_of_eq, add-le-add, zero-add, add-zero, sub-le}
use native.Mathlib.Omega.{arith}
use Rattle.theory.specs.Sums.{given}
use Rattle.theory.proofs.Cases.{by_cases, cond_true, cond_false}
use Rattle.theory.proofs.SumLaws.{given_le, given_most}
use Rattle.paper.specs.Interception.{intercepted, net}
use Rattle.paper.specs.Snow.{melt}
use Rattle.paper.specs.CurveNumber.{curve_number}
use Rattle.paper.specs.Runoff.{runoff}
use Rattle.paper.specs.Setup.{Cell}
use Rattle.paper.specs.State.{most_soil_of}
use Rattle.paper.specs.CellDay.{
  Today,
  figure_of,
  intercepted_of,
  net_of,
  rain_of,
  store_of,
  melt_of,
  own_of,
  runoff_of,
  ground_of,
  passed_of,
  Figures,
  open_day,
  land_day,
  cell_day,
}
use Rattle.paper.proofs.RunoffLaws.{runoff_rises, runoff_most, infiltration_rises}
use Rattle.paper.proofs.SoilLaws as SoilLaws
use Rattle.paper.proofs.SoilLaws.{soil_account, soil_rises, soil_limit, rejected_most}

-- the day with another gross precipitation
abbrev pub raining : Today → ℕ → Today
raining t gross =
    record {
      gross = gross;
      potential = t.potential;
      growing? = t.growing?;
      snows? = t.snows?;
      meltable = t.meltable;
      condition = t.condition;
    }

-- no figure of the second day is smaller
pub record Rises (a b : Figures) : Type 0 where
  pub intercepted : a.intercepted ≤ b.intercepted
  pub outflow : a.outflow ≤ b.outflow
  pub evapotranspired : a.evapotranspired ≤ b.evapotranspired
  pub recharged : a.recharged ≤ b.recharged
  pub rejected : a.rejected ≤ b.rejected
  pub soil : a.soil ≤ b.soil
  pub snow : a.snow ≤ b.snow

module _ (c : Cell) (t : Today) where
  -- rules 4 to 6 by what kind of cell it is
  own_open : (snow : ℕ) → c.open? ≡ true → own_of c t snow ≡ t.gross
  unfolding own_of
  own_open snow e = cond_true c.open? e _ _

  own_land : (snow : ℕ) → c.open? ≡ false → own_of c t snow ≡ rain_of c t + melt_of c t snow
  unfolding own_of
  own_land snow e = cond_false c.open? e _ _

  -- what holds of no runoff and of rule 6's holds of the cell's
  runoff_by_lem : (P : (ℕ → ℕ) → Type 0) → P (λ w. 0) → P (runoff (curve_number t.condition c.N)) → P (runoff_of c t)
  unfolding runoff_of
  runoff_by_lem P none some =
      by_cases c.closed? (λ f. subst⁻¹ P (fun_ext (λ w. cond_true c.closed? f _ _)) none)
      (λ f. subst⁻¹ P (fun_ext (λ w. cond_false c.closed? f _ _)) some)

  passed_open : (soil w : ℕ) → c.open? ≡ true → passed_of c t soil w ≡ w
  unfolding passed_of
  passed_open soil w e = cond_true c.open? e _ _

  pub passed_closed : (soil w : ℕ) → c.open? ≡ false → c.closed? ≡ true → passed_of c t soil w ≡ 0
  unfolding passed_of
  passed_closed soil w e f = cond_false c.open? e _ _ ∙ cond_true c.closed? f _ _

  pub passed_on : (soil w : ℕ) → c.open? ≡ false → c.closed? ≡ false → passed_of c t soil w ≡ runoff_of c t w + (ground_of c t soil w).rejected
  unfolding passed_of
  passed_on soil w e f = cond_false c.open? e _ _ ∙ cond_false c.closed? f _ _

  -- rejected recharge once: it joins the runoff, or in a closed depression, which has no runoff, it leaves the balance
  pub rejected_once : (soil w : ℕ) → c.open? ≡ false
      → passed_of c t soil w + given c.closed? (ground_of c t soil w).rejected ≡ runoff_of c t w + (ground_of c t soil w).rejected
  unfolding given runoff_of
  rejected_once soil w e =
      by_cases c.closed?
      (λ f. rw (passed_closed soil w e f) (simp f refl))
      (λ f. rw (passed_on soil w e f) (simp f (add-zero _)))

  pub day_open : (soil snow inflow : ℕ) → c.open? ≡ true → cell_day c t soil snow inflow ≡ open_day (t.gross + inflow)
  unfolding cell_day
  day_open soil snow inflow e = cond_true c.open? e _ _ ∙ ap (λ (w : ℕ). open_day (w + inflow)) (own_open snow e)

  pub day_land : (soil snow inflow : ℕ) → c.open? ≡ false
      → cell_day c t soil snow inflow ≡ land_day c t soil snow (own_of c t snow + inflow)
  unfolding cell_day
  day_land soil snow inflow e = cond_false c.open? e _ _

  -- the outflow is what the cell passes on of its water
  pub day_outflow : (soil snow inflow : ℕ) → (cell_day c t soil snow inflow).outflow ≡ passed_of c t soil (own_of c t snow + inflow)
  unfolding open_day land_day
  day_outflow soil snow inflow =
      by_cases c.open?
      (λ e. ap (λ (r : Figures). r.outflow) (day_open soil snow inflow e)
      ∙ sym (passed_open soil _ e ∙ ap (λ (w : ℕ). w + inflow) (own_open snow e)))
      (λ e. ap (λ (r : Figures). r.outflow) (day_land soil snow inflow e))

  -- interception goes by gross precipitation and the season alone
  pub day_intercepted : (soil snow inflow : ℕ) → (cell_day c t soil snow inflow).intercepted ≡ cond c.open? 0 (intercepted_of c t)
  unfolding open_day land_day
  day_intercepted soil snow inflow =
      by_cases c.open?
      (λ e. ap (λ (r : Figures). r.intercepted) (day_open soil snow inflow e) ∙ sym (cond_true c.open? e _ _))
      (λ e. ap (λ (r : Figures). r.intercepted) (day_land soil snow inflow e) ∙ sym (cond_false c.open? e _ _))

  -- net falls as rain or joins the store
  rain_and_snow : rain_of c t + given t.snows? (net_of c t) ≡ net_of c t
  unfolding rain_of given
  rain_and_snow = by_cases t.snows? (λ e. rw e (zero-add _)) (λ e. rw e (add-zero _))

  gross_and_net : t.gross ≡ intercepted_of c t + net_of c t
  unfolding intercepted_of net_of net intercepted
  gross_and_net = omega arith

  melt_most : (snow : ℕ) → melt_of c t snow ≤ store_of c t snow
  unfolding melt_of melt
  melt_most snow = omega arith

  pub own_account : (snow : ℕ) → c.open? ≡ false
      → t.gross + snow ≡ intercepted_of c t + own_of c t snow + (store_of c t snow - melt_of c t snow)
  unfolding store_of
  own_account snow e = omega (arith, own_land snow e, rain_and_snow, gross_and_net, melt_most snow)

  -- a cell's own water is at most gross precipitation and what can melt
  pub own_most : (snow : ℕ) → own_of c t snow ≤ t.gross + t.meltable
  unfolding rain_of melt_of melt
  own_most snow =
      by_cases c.open? (λ e. omega (arith, own_open snow e))
      (λ e. omega (arith, own_land snow e, gross_and_net, given_most (not t.snows?) (net_of c t)))

  pub runoff_within : (w : ℕ) → curve_number t.condition c.N ≤ 100 → runoff_of c t w ≤ w
  runoff_within w small = runoff_by_lem (λ out. out w ≤ w) zero-le (runoff_most _ w small)

  -- rejected recharge leaves the balance in a closed depression alone
  pub cell_account : (soil snow inflow : ℕ) → curve_number t.condition c.N ≤ 100
      → (c.open? ≡ true → (soil ≡ 0) × (snow ≡ 0))
      → let r : Figures = cell_day c t soil snow inflow in
      t.gross + inflow + soil + snow
      ≡ r.intercepted + r.outflow + r.evapotranspired + r.recharged + given c.closed? r.rejected + r.soil + r.snow
  unfolding open_day land_day ground_of
  cell_account soil snow inflow small empty =
      by_cases c.open?
      (λ e. let z : (soil ≡ 0) × (snow ≡ 0) = empty e in
      rw (day_open soil snow inflow e) (omega (arith, given_most c.closed? 0)))
      (λ e. let w : ℕ = own_of c t snow + inflow in
      rw (day_land soil snow inflow e)
      (omega (
        arith,
        own_account snow e,
        rejected_once soil w e,
        runoff_within w small,
        soil_account c.capacity c.largest soil (w - runoff_of c t w) t.potential,
      )))

  module _ (small : curve_number t.condition c.N ≤ 100) where
    -- what is rejected was infiltration, which is w less the runoff
    pub passed_most : (soil w : ℕ) → soil ≤ most_soil_of c → passed_of c t soil w ≤ w
    unfolding most_soil_of ground_of
    passed_most soil w p =
        by_cases c.open? (λ e. le_of_eq (passed_open soil w e))
        (λ e. omega (
          arith,
          rejected_once soil w e,
          runoff_within w small,
          rejected_most c.capacity c.largest soil (w - runoff_of c t w) t.potential (rw (cond_false c.open? e) at p),
        ))

    -- no outflow passes w, open water aside
    pub outflow_at_most : (soil snow inflow : ℕ) → c.open? ≡ false → soil ≤ most_soil_of c
        → (cell_day c t soil snow inflow).outflow ≤ rain_of c t + melt_of c t snow + inflow
    outflow_at_most soil snow inflow e p =
        omega (arith, day_outflow soil snow inflow, own_land snow e, passed_most soil (own_of c t snow + inflow) p)

    runoff_more : (w v : ℕ) → w ≤ v → runoff_of c t w ≤ runoff_of c t v
    runoff_more = runoff_by_lem (λ out. (w v : ℕ) → w ≤ v → out w ≤ out v) (λ w v h. zero-le) (λ w v h. runoff_rises small h)

    kept_rises : (w v : ℕ) → w ≤ v → w - runoff_of c t w ≤ v - runoff_of c t v
    kept_rises =
        runoff_by_lem (λ out. (w v : ℕ) → w ≤ v → w - out w ≤ v - out v) (λ w v h. omega arith) (λ w v h. infiltration_rises small h)

    ground_rises : (soil soil' w v : ℕ) → soil ≤ soil' → soil' ≤ c.capacity → w ≤ v
        → SoilLaws.NoSmaller (ground_of c t soil w) (ground_of c t soil' v)
    unfolding ground_of
    ground_rises soil soil' w v p q h = soil_rises c.capacity c.largest soil soil' _ _ t.potential p q (kept_rises w v h)

    pub passed_rises : (soil soil' w v : ℕ) → soil ≤ soil' → soil' ≤ most_soil_of c → w ≤ v → passed_of c t soil w ≤ passed_of c t soil' v
    unfolding most_soil_of
    passed_rises soil soil' w v p q h =
        by_cases c.open? (λ e. rw (passed_open soil w e, passed_open soil' v e) h)
        (λ e. by_cases c.closed? (λ f. rw (passed_closed soil w e f) zero-le)
        (λ f. rw (passed_on soil w e f, passed_on soil' v e f)
        (add-le-add (runoff_more w v h) (ground_rises soil soil' w v p (rw (cond_false c.open? e) at q) h).rejected)))

  -- no more is rejected than sinks in
  pub rejected_at_most : (soil snow inflow : ℕ) → c.open? ≡ false → soil ≤ c.capacity
      → (cell_day c t soil snow inflow).rejected ≤ own_of c t snow + inflow - runoff_of c t (own_of c t snow + inflow)
  unfolding land_day ground_of
  rejected_at_most soil snow inflow e h =
      rw (day_land soil snow inflow e) (rejected_most c.capacity c.largest soil _ t.potential h)

  -- the soil stays within its capacity, and open water keeps nothing
  pub end_soil : (soil snow inflow : ℕ) → soil ≤ most_soil_of c → (cell_day c t soil snow inflow).soil ≤ most_soil_of c
  unfolding most_soil_of open_day land_day ground_of
  end_soil soil snow inflow h =
      by_cases c.open? (λ e. rw (day_open soil snow inflow e) zero-le)
      (λ e. rw (day_land soil snow inflow e, cond_false c.open? e)
      (soil_limit c.capacity c.largest soil _ t.potential (rw (cond_false c.open? e) at h)))

  -- the snow at the end is at most the store that the snowfall has joined
  pub end_snow_lem : (soil snow inflow most : ℕ) → (c.open? ≡ false → store_of c t snow ≤ most) → (cell_day c t soil snow inflow).snow ≤ cond c.open? 0 most
  unfolding open_day land_day
  end_snow_lem soil snow inflow most h =
      by_cases c.open? (λ e. rw (day_open soil snow inflow e) zero-le)
      (λ e. rw (day_land soil snow inflow e, cond_false c.open? e) (le_trans (sub-le _ _) (h e)))

module _ (c : Cell) (t : Today) (g h : ℕ) (more : g ≤ h) where
  net_rises : net_of c (raining t g) ≤ net_of c (raining t h)
  unfolding net_of net intercepted figure_of
  net_rises = omega arith

  store_rises : (snow snow' : ℕ) → snow ≤ snow' → store_of c (raining t g) snow ≤ store_of c (raining t h) snow'
  unfolding store_of
  store_rises snow snow' s = add-le-add s (given_le t.snows? net_rises)

  pub own_rises : (snow snow' : ℕ) → snow ≤ snow' → own_of c (raining t g) snow ≤ own_of c (raining t h) snow'
  unfolding rain_of melt_of melt
  own_rises snow snow' s =
      by_cases c.open? (λ e. rw (own_open c (raining t g) snow e, own_open c (raining t h) snow' e) more)
      (λ e. rw (own_land c (raining t g) snow e, own_land c (raining t h) snow' e)
      (omega (arith, given_le (not t.snows?) net_rises, store_rises snow snow' s)))

  pub cell_rises : (soil soil' snow snow' inflow inflow' : ℕ) → curve_number t.condition c.N ≤ 100
      → soil ≤ soil' → soil' ≤ most_soil_of c → snow ≤ snow' → inflow ≤ inflow'
      → Rises (cell_day c (raining t g) soil snow inflow) (cell_day c (raining t h) soil' snow' inflow')
  unfolding open_day land_day ground_of most_soil_of passed_of runoff_of intercepted_of intercepted figure_of melt_of melt
  cell_rises soil soil' snow snow' inflow inflow' small p q s i =
      by_cases c.open?
      (λ e. rw (day_open c (raining t g) soil snow inflow e, day_open c (raining t h) soil' snow' inflow' e) (omega arith))
      (λ e.
      let water : own_of c (raining t g) snow + inflow ≤ own_of c (raining t h) snow' + inflow' = add-le-add (own_rises snow snow' s) i in
      let ground : SoilLaws.NoSmaller (ground_of c (raining t g) soil (own_of c (raining t g) snow + inflow)) (ground_of c (raining t h) soil' (own_of c (raining t h) snow' + inflow'))
      = ground_rises c t small soil soil' _ _ p (rw (cond_false c.open? e) at q) water in
      rw (day_land c (raining t g) soil snow inflow e, day_land c (raining t h) soil' snow' inflow' e)
      (record {
        intercepted = omega arith;
        outflow = passed_rises c t small soil soil' _ _ p q water;
        evapotranspired = ground.evapotranspired;
        recharged = ground.recharged;
        rejected = ground.rejected;
        soil = ground.soil;
        snow = omega (arith, store_rises snow snow' s);
      }))
