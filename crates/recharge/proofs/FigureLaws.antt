-- A cell's day by its plot and its way is the paper's, on open water too: its soil has nothing and is given nothing, so by its account nothing comes of
-- it, and nothing of it runs on. And each figure is, by that account, at most what the cell had and was given, which fits 32 bits.
use mathlib.Core.Path.{◌≡◌, refl, sym, ◌∙◌}
use mathlib.Core.Bool.{true, false, cond, not}
use mathlib.Core.List.{List}
use Prim.Native.Nat.{ℕ, ◌+◌, ◌-◌, ◌≤◌, ◌<◌, zero-le}
use native.Mathlib.Nat.{le_refl, le_trans}
use native.Mathlib.Omega.{arith}
use lib.Dec.{eqb}
use Rattle.theory.specs.Sums.{given}
use Rattle.theory.proofs.Cases.{by_cases, cond_true, cond_false}
use Rattle.theory.proofs.SumLaws.{given_most}
use Rattle.paper.specs.Limits.{most_gross, most_snow, most_curve_number}
use Rattle.paper.specs.Interception.{intercepted, net}
use Rattle.paper.specs.Snow.{melt}
use Rattle.paper.specs.CurveNumber.{curve_number}
use Rattle.paper.specs.Setup.{Cell}
use Rattle.paper.specs.State.{most_soil_of, most_snow_of}
use Rattle.paper.specs.Soil.{SoilDay, soil_day}
use Rattle.paper.specs.CellDay.{Today, Figures, intercepted_of, net_of, rain_of, store_of, melt_of, own_of, runoff_of, ground_of, passed_of, open_day, land_day, cell_day}
use Rattle.paper.proofs.RunoffLaws.{runoff_most}
use Rattle.paper.proofs.SoilLaws.{soil_account, rejected_most}
use Rattle.covers.specs.Slots.{most_capacity}
use Rattle.recharge.specs.Depths.{gathered_limit}
use Rattle.covers.specs.Plots.{caught_of, wet_of, fall_of, curve_of, drain_of, Plot, plot_for}
use Rattle.recharge.specs.CellDay.{open_water, closed_by, own_by, runoff_by, ground_by, passed_by, figures_with, figures_by, PlotFits, CellReady, Fit32}

runoff_within : (p : Plot) (way w : ℕ) → p.curve ≤ most_curve_number → runoff_by p way w ≤ w
unfolding runoff_by
runoff_within p way w h =
    by_cases (eqb way open_water) (λ e. rw e (le_refl w))
    (λ e. by_cases (closed_by way) (λ f. rw (e, f) zero-le) (λ f. rw (e, f) (runoff_most p.curve w h)))

-- what runs on was infiltration, which is w less the runoff
pub passed_most : (t : Today) (p : Plot) (way soil w : ℕ) → p.curve ≤ most_curve_number → soil ≤ p.capacity → passed_by t p way soil w ≤ w
unfolding passed_by ground_by
passed_most t p way soil w small held =
    omega (
      arith,
      runoff_within p way w small,
      given_most (not (closed_by way)) (ground_by t p way soil w).rejected,
      rejected_most p.capacity p.largest soil (w - runoff_by p way w) t.potential held,
    )

pub own_most : (t : Today) (p : Plot) (snow : ℕ) → own_by t p snow ≤ p.rain + t.meltable
unfolding own_by melt
own_most t p snow = omega arith

pub figures_fit : (t : Today) (p : Plot) (way soil snow w : ℕ) → PlotFits p → soil ≤ p.capacity → snow + p.snowfall ≤ most_snow → w < gathered_limit
    → Fit32 (figures_with t p way soil snow w)
unfolding figures_with ground_by
figures_fit t p way soil snow w fits held lying wet =
    omega (
      arith,
      passed_most t p way soil w fits.curve held,
      soil_account p.capacity p.largest soil (w - runoff_by p way w) t.potential,
    )

-- a cell's day step by step: the melt, the runoff, the infiltration, the soil's day, what runs on of it and what is left of the snow
abbrev pub stepped : Plot → ℕ → SoilDay → ℕ → Figures
stepped p out d left =
    record {
      intercepted = p.intercepted;
      outflow = out;
      evapotranspired = d.evapotranspired;
      recharged = d.recharged;
      rejected = d.rejected;
      soil = d.soil;
      snow = left;
    }

module _ (t : Today) (p : Plot) (way soil snow arrived melted surface n on left : ℕ) (d : SoilDay) (em : melted ≡ melt (snow + p.snowfall) t.meltable)
    (er : surface ≡ runoff_by p way (p.rain + melted + arrived)) (en : n ≡ p.rain + melted + arrived - surface)
    (ed : d ≡ soil_day p.capacity p.largest soil n t.potential) (eo : on ≡ given (not (closed_by way)) d.rejected)
    (el : left ≡ snow + p.snowfall - melted) where
  pub steps_are : stepped p (surface + on) d left ≡ figures_by t p way soil snow arrived
  unfolding figures_by figures_with passed_by ground_by own_by
  steps_are = rw (el, eo, ed, en, er, em)

  pub steps_fit : {f : List ℕ} → CellReady t p soil snow arrived f → Fit32 (stepped p (surface + on) d left)
  unfolding figures_by
  steps_fit ready = rw steps_are (figures_fit t p way soil snow _ ready.plot ready.held ready.lying ready.wet)

module _ (t : Today) (c : Cell) where
  net_most : net_of c t ≤ t.gross
  unfolding net_of net
  net_most = omega arith

  -- the plot of a cell within its limits
  pub plot_fits : t.gross ≤ most_gross → c.capacity ≤ most_capacity → curve_number t.condition c.N ≤ most_curve_number → PlotFits (plot_for t c)
  unfolding plot_for caught_of wet_of curve_of most_soil_of intercepted_of intercepted rain_of
  plot_fits few deep small =
      by_cases c.open?
      (λ e. simp (cond_true {A = ℕ} c.open? e) (omega arith))
      (λ e. simp (cond_false {A = ℕ} c.open? e)
      (record {
        intercepted = omega arith;
        rain = le_trans (given_most (not t.snows?) (net_of c t)) (le_trans net_most few);
        curve = small;
        capacity = deep;
      }))

  -- the store that the snowfall has joined: on open water there is none
  pub store_plot : (snow : ℕ) → snow ≤ most_snow_of c → (c.open? ≡ false → store_of c t snow ≤ most_snow) → snow + (plot_for t c).snowfall ≤ most_snow
  unfolding plot_for fall_of most_snow_of store_of
  store_plot snow lies joined =
      by_cases c.open?
      (λ e. let none : snow ≤ 0 = rw (cond_true c.open? e) at lies in simp (cond_true {A = ℕ} c.open? e) (omega arith))
      (λ e. simp (cond_false {A = ℕ} c.open? e) (joined e))

  pub own_plot : (snow : ℕ) → snow ≤ most_snow_of c → own_by t (plot_for t c) snow ≡ own_of c t snow
  unfolding own_by plot_for wet_of fall_of own_of most_snow_of melt_of store_of melt
  own_plot snow h =
      by_cases c.open?
      (λ e. let none : snow ≤ 0 = rw (cond_true c.open? e) at h in simp (cond_true {A = ℕ} c.open? e) (omega arith))
      (λ e. simp (cond_false {A = ℕ} c.open? e))

  module _ (way : ℕ) (lake : eqb way open_water ≡ c.open?) (closed : closed_by way ≡ c.closed?) where
    runoff_land : (w : ℕ) → c.open? ≡ false → runoff_by (plot_for t c) way w ≡ runoff_of c t w
    unfolding runoff_by plot_for curve_of runoff_of
    runoff_land w e = rw (lake, closed, e) refl

    runoff_lake : (w : ℕ) → c.open? ≡ true → runoff_by (plot_for t c) way w ≡ w
    unfolding runoff_by
    runoff_lake w e = rw (lake, e) refl

    ground_land : (soil w : ℕ) → c.open? ≡ false → ground_by t (plot_for t c) way soil w ≡ ground_of c t soil w
    unfolding ground_by plot_for drain_of most_soil_of ground_of
    ground_land soil w e = rw (runoff_land w e) (simp (cond_false {A = ℕ} c.open? e))

    -- open water's soil has nothing and is given nothing
    module _ (soil w : ℕ) (holds : soil ≤ most_soil_of c) (e : c.open? ≡ true) where
      nought : (part : SoilDay → ℕ) → ((r : SoilDay) → part r ≤ r.evapotranspired + r.recharged + r.rejected + r.soil)
          → part (ground_by t (plot_for t c) way soil w) ≡ 0
      unfolding ground_by plot_for most_soil_of
      nought part some =
          let bare : soil ≤ 0 = rw (cond_true {A = ℕ} c.open? e) at holds in
          omega (
            arith,
            runoff_lake w e,
            some (ground_by t (plot_for t c) way soil w),
            soil_account (most_soil_of c) (drain_of c) soil (w - runoff_by (plot_for t c) way w) t.potential,
          )

    pub passed_plot : (soil w : ℕ) → soil ≤ most_soil_of c → passed_by t (plot_for t c) way soil w ≡ passed_of c t soil w
    unfolding passed_by passed_of runoff_of given
    passed_plot soil w holds =
        by_cases c.open?
        (λ e. let none : (ground_by t (plot_for t c) way soil w).rejected ≡ 0 = nought soil w holds e (λ r. r.rejected) (λ r. omega arith) in
        omega (arith, runoff_lake w e, none, given_most (not (closed_by way)) (ground_by t (plot_for t c) way soil w).rejected)
        ∙ sym (cond_true c.open? e _ _))
        (λ e. rw (runoff_land w e, ground_land soil w e, closed, cond_false c.open? e)
        (by_cases c.closed? (λ f. simp f refl) (λ f. simp f refl)))

    module _ (soil snow w : ℕ) (holds : soil ≤ most_soil_of c) (lies : snow ≤ most_snow_of c) where
      on_water : c.open? ≡ true → figures_with t (plot_for t c) way soil snow w ≡ open_day w
      unfolding figures_with plot_for caught_of fall_of passed_of most_snow_of open_day
      on_water e =
          let clear : snow ≤ 0 = rw (cond_true {A = ℕ} c.open? e) at lies in
          let no_fall : cond c.open? 0 (given t.snows? (net_of c t)) ≡ 0 = cond_true c.open? e _ _ in
          (λ k. record {
            intercepted = cond_true c.open? e 0 (intercepted_of c t) k;
            outflow = (passed_plot soil w holds ∙ cond_true c.open? e _ _) k;
            evapotranspired = nought soil w holds e (λ r. r.evapotranspired) (λ r. omega arith) k;
            recharged = nought soil w holds e (λ r. r.recharged) (λ r. omega arith) k;
            rejected = nought soil w holds e (λ r. r.rejected) (λ r. omega arith) k;
            soil = nought soil w holds e (λ r. r.soil) (λ r. omega arith) k;
            snow = is_0 (snow + fall_of t c - melt (snow + fall_of t c) t.meltable) (omega arith) k;
          })
        where
          is_0 : (x : ℕ) → x ≤ 0 → x ≡ 0
          is_0 x h = omega arith

      on_land : c.open? ≡ false → figures_with t (plot_for t c) way soil snow w ≡ land_day c t soil snow w
      unfolding figures_with plot_for caught_of fall_of land_day store_of melt_of
      on_land e = rw (passed_plot soil w holds, ground_land soil w e) (simp (cond_false {A = ℕ} c.open? e))

    pub day_plot : (soil snow arrived : ℕ) → soil ≤ most_soil_of c → snow ≤ most_snow_of c
        → figures_by t (plot_for t c) way soil snow arrived ≡ cell_day c t soil snow arrived
    unfolding figures_by cell_day
    day_plot soil snow arrived holds lies =
        rw (own_plot snow lies)
        (by_cases c.open? (λ e. on_water soil snow _ holds lies e ∙ sym (cond_true c.open? e _ _))
        (λ e. on_land soil snow _ holds lies e ∙ sym (cond_false c.open? e _ _)))
