-- The pass downhill, turn by turn. When a cell's turn has come, all that flows to it has arrived, and its own stores are as they were lent; so the
-- figures worked out then are those of the day. Each turn writes them at the cell's place, adds them to the totals and hands on what flows out;
-- after the last turn every place is written and every cell is summed once, whatever the order. No sum overflows, since no cell's water passes the
-- sum of all cells' own water.
use mathlib.Core.Path.{◌≡◌, sym, ap, ◌∙◌, subst}
use mathlib.Core.List.{List}
use Prim.Native.Nat.{ℕ, ◌+◌, ◌≤◌, ◌<◌, zero-le}
use native.Mathlib.Nat.{lt_of_lt_of_le, le_trans, mul-le-mul_right}
use native.Mathlib.Omega.{arith}
use lib.ListN.{length, get_or, replicate}
use Rattle.theory.specs.Lists.{added_at}
use Rattle.theory.specs.Sums.{sum, given}
use Rattle.theory.specs.Ways.{UpslopeFirst}
use Rattle.theory.proofs.AlongLaws.{along_read}
use Rattle.theory.proofs.SumLaws.{sum_most}
use Rattle.paper.specs.CellDay.{Today, Figures}
use Rattle.paper.specs.Day as paper
use Rattle.paper.specs.Flow.{water}
use Rattle.paper.proofs.FlowLaws.{water_reached, water_most}
use Rattle.paper.proofs.ArrivalLaws.{Arrived, arrived_none, arrived_reached, arrived_fits, arrived_next}
use Rattle.survey.specs.Charts.{next_as}
use Rattle.survey.proofs.CountLaws.{way_next}
use Rattle.recharge.specs.Depths.{gathered_limit, past32}
use Rattle.retention.specs.Retention.{table}
use Rattle.covers.specs.Plots.{Plot, plot_by}
use Rattle.recharge.specs.CellDay.{figures_with, figures_by, CellReady, Fit32}
use Rattle.records.specs.Answers.{totals_as}
use Rattle.recharge.specs.Totals.{with_cell, totals_by, Room}
use Rattle.recharge.specs.Downhill.{plot_of_cell, passed_at, own_at, inflow_at, figures_at, day_at, LentAt, closed_at, gone_at, Slices, Sized, Ready, Ran}
use Rattle.records.specs.declared.answers.Totals.{Totals}
use Rattle.recharge.proofs.FigureLaws.{passed_most, own_most, figures_fit}
use Rattle.recharge.proofs.SliceLaws.{Written, stored, written_none, written_sized, written_more, written_all}
use Rattle.recharge.proofs.TotalsLaws.{with_one, sums_room, totals_along}

-- one cell as it is read
module _
    {t : Today}
    {f plots slots available soil snow arrived : List ℕ}
    {i : ℕ}
    (lent : LentAt t f plots slots available soil snow arrived i)
    (s n a : ℕ)
    (p : Plot)
    (is_plot : p ≡ plot_by plots (get_or slots i 0) (get_or available i 0))
    (is_soil : s ≡ get_or soil i 0)
    (is_snow : n ≡ get_or snow i 0)
    (is_arrived : a ≡ get_or arrived i 0)
  where
    pub lent_ready : CellReady t p s n a f
    unfolding plot_of_cell
    lent_ready = rw (is_plot, is_soil, is_snow, is_arrived) lent.ready

    pub lent_day : (way : ℕ) (r : Figures) → r ≡ figures_by t p way s n a → r ≡ day_at t plots slots available soil snow arrived way i
    unfolding day_at plot_of_cell
    lent_day way r e = e ∙ rw (is_plot, is_soil, is_snow, is_arrived)

-- what a pass that is ready knows of each cell
module _ {t : Today} {plots slots ways order available : List ℕ} {s₀ : Slices} (ready : Ready t plots slots ways order available s₀) where
  abbrev n : ℕ
  n = length available

  abbrev next : ℕ → ℕ
  next = next_as n ways

  abbrev o : UpslopeFirst n next
  o = ready.ordered.order

  abbrev passed : ℕ → ℕ → ℕ
  passed = passed_at t plots slots ways available s₀.soil

  abbrev own : ℕ → ℕ
  own = own_at t plots slots available s₀.snow

  abbrev W : ℕ → ℕ
  W = water n next passed own

  abbrev figure : ℕ → Figures
  figure = figures_at t plots slots ways available s₀.soil s₀.snow

  abbrev plot : ℕ → Plot
  plot = plot_of_cell plots slots available

  passed_keeps : (j w : ℕ) → j < n → passed j w ≤ w
  unfolding passed_at
  passed_keeps j w h = passed_most t (plot j) (get_or ways j 0) (get_or s₀.soil j 0) w (ready.plotted j h).curve (ready.held j h)

  own_limit : (i : ℕ) → i < n → own i ≤ 450000
  unfolding own_at
  own_limit i h = omega (arith, own_most t (plot i) (get_or s₀.snow i 0), (ready.plotted i h).rain, ready.melts)

  little : (i : ℕ) → i < n → W i < gathered_limit
  little i h =
      omega (
        arith,
        water_most n next passed o passed_keeps own i h,
        sum_most n own 450000 own_limit,
        mul-le-mul_right 450000 ready.pointing.most,
      )

  -- the water that reaches it is its own and what arrives
  gathered : (i : ℕ) → i < n → own i + inflow_at t plots slots ways available s₀.soil s₀.snow i ≡ W i
  unfolding inflow_at
  gathered i h = sym (water_reached n next passed o own i h)

  -- what flows out is what it passes on
  handed : (i : ℕ) → i < n → (figure i).outflow ≡ passed i (W i)
  unfolding figures_at figures_by figures_with passed_at own_at
  handed i h = ap (passed i) (gathered i h)

  fits : (i : ℕ) → i < n → Fit32 (figure i)
  unfolding figures_at figures_by own_at
  fits i h =
      figures_fit t (plot i) (get_or ways i 0) (get_or s₀.soil i 0) (get_or s₀.snow i 0) _ (ready.plotted i h) (ready.held i h) (ready.lying i h)
      (rw (gathered i h) (little i h))

-- the pass before turn u
pub record Pass (t : Today) (plots slots ways order available : List ℕ) (s₀ : Slices) (u : ℕ) (totals : paper.Totals) (f arrived : List ℕ) (s : Slices)
    : Type 0 where
  pub ready : Ready t plots slots ways order available s₀
  pub within : u ≤ length available
  pub retained : f ≡ table
  pub arrivals : Arrived (passed ready) (own ready) (o ready) u arrived
  pub summed : totals ≡ totals_by u t.gross (λ v. figure ready ((o ready).who v)) (λ v. closed_at ways ((o ready).who v)) (λ v. gone_at ways ((o ready).who v))
  pub written : Written (o ready) (figure ready) s₀ u s

pub pass_none : {t : Today} {plots slots ways order available : List ℕ} {s₀ : Slices} → Ready t plots slots ways order available s₀
    → (totals : paper.Totals) → totals ≡ paper.no_totals → (f : List ℕ) → f ≡ table
    → Pass t plots slots ways order available s₀ 0 totals f (replicate 4096 0) s₀
unfolding totals_by sum
pass_none ready totals none f e =
    record {
      ready = ready;
      within = zero-le;
      retained = e;
      arrivals = arrived_none (passed ready) (own ready) (o ready) 4096 ready.pointing.most;
      summed = none;
      written = written_none (o ready) (figure ready) _ ready.sized;
    }

module _
    {t : Today}
    {plots slots ways order available : List ℕ}
    {s₀ : Slices}
    {u : ℕ}
    {totals : paper.Totals}
    {f arrived : List ℕ}
    {s : Slices}
    (p : Pass t plots slots ways order available s₀ u totals f arrived s)
  where
    abbrev all : Ready t plots slots ways order available s₀
    all = p.ready

    pub pass_sized : Sized (length available) s
    pass_sized = written_sized (o all) (figure all) s₀ u p.written

    pub pass_room : Room totals
    pass_room =
        subst Room (sym p.summed)
        (sums_room t.gross _ _ _ u (le_trans p.within all.pointing.most) all.gross
        (λ k l. fits all ((o all).who k) ((o all).placed k (lt_of_lt_of_le l p.within))))

    pub pass_end : (r : Totals) → totals_as r ≡ totals → length available ≤ u → Ran t plots slots ways available s₀.soil s₀.snow r s
    pass_end r e h =
        let last : u ≡ length available = omega (arith, p.within) in
        record {
          summed =
              e ∙ p.summed
              ∙ ap (λ (k : ℕ). totals_by k t.gross (λ v. figure all ((o all).who v)) (λ v. closed_at ways ((o all).who v)) (λ v. gone_at ways ((o all).who v))) last
              ∙ totals_along t.gross (figure all) (closed_at ways) (gone_at ways) (o all);
          written = written_all (o all) (figure all) s₀ u p.written h;
        }

    -- the cell whose turn it is
    module _ (h : u < length available) (cell : ℕ) (e : cell ≡ get_or order u 0) where
      whose : cell ≡ (o all).who u
      whose = e ∙ all.ordered.listed u h

      pub pass_inside : cell < length available
      pass_inside = rw whose ((o all).placed u h)

      pub pass_small : cell < 4096
      pass_small = lt_of_lt_of_le pass_inside all.pointing.most

      -- its way leads where it points
      points : next_as (length available) ways cell ≡ get_or ways cell 0
      points = sym (way_next all.pointing cell pass_inside)

      soil_still : get_or s.soil cell 0 ≡ get_or s₀.soil cell 0
      soil_still = along_read (o all) _ _ u _ p.written.soil h cell whose

      snow_still : get_or s.snow cell 0 ≡ get_or s₀.snow cell 0
      snow_still = along_read (o all) _ _ u _ p.written.snow h cell whose

      come : get_or arrived cell 0 ≡ inflow_at t plots slots ways available s₀.soil s₀.snow cell
      unfolding inflow_at
      come = arrived_reached (passed all) (own all) (o all) p.arrivals h cell whose

      pub pass_lent : LentAt t f plots slots available s.soil s.snow arrived cell
      unfolding own_at
      pass_lent =
          record {
            small = pass_small;
            waters = pass_inside;
            soils = rw pass_sized.soil pass_inside;
            snows = rw pass_sized.snow pass_inside;
            ready =
                record {
                  plot = all.plotted cell pass_inside;
                  potential = all.potential;
                  held = rw soil_still (all.held cell pass_inside);
                  lying = rw snow_still (all.lying cell pass_inside);
                  wet = rw (snow_still, come, gathered all cell pass_inside) (little all cell pass_inside);
                  retained = p.retained;
                };
          }

      module _ (r : Figures) (worked : r ≡ day_at t plots slots available s.soil s.snow arrived (get_or ways cell 0) cell) where
        is_figure : r ≡ figure all cell
        unfolding day_at figures_at
        is_figure = worked ∙ rw (soil_still, snow_still, come)

        hands : r.outflow ≡ passed all cell (W all cell)
        hands = ap (λ (x : Figures). x.outflow) is_figure ∙ handed all cell pass_inside

        pub pass_fits : get_or ways cell 0 < length available → get_or arrived (get_or ways cell 0) 0 + r.outflow < past32
        pass_fits inside =
            omega (
              arith,
              arrived_fits (passed all) (own all) (o all) p.arrivals h cell whose r.outflow (get_or ways cell 0) hands points inside,
              little all (get_or ways cell 0) inside,
            )

        pub pass_more : (totals' : paper.Totals) (left gone : ℕ) (arrived' : List ℕ) → totals' ≡ with_cell totals t.gross r left gone
            → left ≡ given (closed_at ways cell) r.rejected → gone ≡ given (gone_at ways cell) r.outflow
            → arrived' ≡ added_at (length available) (get_or ways cell 0) r.outflow arrived
            → Pass t plots slots ways order available s₀ (u + 1) totals' f arrived' (stored s cell r)
        pass_more totals' left gone arrived' et el eg ea =
            record {
              ready = all;
              within = omega arith;
              retained = p.retained;
              arrivals =
                  rw ea (arrived_next (passed all) (own all) (o all) p.arrivals h cell whose r.outflow (get_or ways cell 0) hands points);
              summed =
                  et
                  ∙ with_one t.gross (λ v. figure all ((o all).who v)) (λ v. closed_at ways ((o all).who v)) (λ v. gone_at ways ((o all).who v)) u left gone totals r p.summed
                  (is_figure ∙ ap (figure all) whose) (el ∙ ap (λ (i : ℕ). given (closed_at ways i) r.rejected) whose)
                  (eg ∙ ap (λ (i : ℕ). given (gone_at ways i) r.outflow) whose);
              written = written_more (o all) (figure all) s₀ u p.written h cell whose r is_figure;
            }
