-- A day's answer is the paper's. What the tests pass gives the pass downhill all it asks for; the plot of each cell's slot is that of the paper's cell,
-- so that the figures of the pass are the paper's, in which what arrives at each cell is rule 4's; and a refused day hands back what it was given.
use mathlib.Core.Path.{◌≡◌, refl, sym, ap, ap₂, ◌∙◌}
use mathlib.Core.Bool.{Bool, true}
use mathlib.Core.List.{List}
use Prim.Native.Nat.{ℕ, ◌+◌, ◌≤◌, ◌<◌}
use native.Mathlib.Omega.{arith}
use lib.Dec.{eqb}
use lib.ListN.{length, get_or}
use borrow.Author.Tests.{eqb-true, ne_eqb}
use Rattle.theory.specs.Lists.{made}
use Rattle.theory.specs.Sums.{sum, given}
use Rattle.theory.proofs.Cases.{and_left, and_right}
use Rattle.theory.proofs.ListLaws.{made_cong, over_at}
use Rattle.theory.proofs.SumLaws.{sum_cong}
use Rattle.paper.specs.Limits.{most_gross}
use Rattle.paper.specs.Directions.{Goes, to, leaves, stays, open_water}
use Rattle.paper.specs.Setup.{Setup, cell, cells, available_of, goes, pointed, next}
use Rattle.paper.specs.State.{State, Day, Past, past_after, soil_at, snow_at}
use Rattle.paper.specs.CellDay.{Today, today, Figures, cell_day}
use Rattle.paper.specs.CurveNumber.{curve_number}
use Rattle.paper.specs.Refusals.{Verdict, accepted, refused, one_each, setup_lengths}
use Rattle.paper.specs.Day as paper
use Rattle.paper.proofs.DayLaws as days
use Rattle.paper.proofs.FlowLaws.{arriving_same}
use Rattle.paper.proofs.SetupLaws.{Charted, SoundCell, sound_cell, closed_by_lem, open_by, to_inside, next_past}
use Rattle.paper.proofs.SnowLaws.{melt_most}
use Rattle.survey.specs.Charts.{slot_of, next_as, Mapped}
use Rattle.records.specs.Verdicts.{refusal_as, verdict_as, verdict_in}
use Rattle.records.specs.declared.verdicts.Refusal as code
use Rattle.std.specs.Prelude.{Err}
use Rattle.records.specs.declared.answers.Totals.{Totals}
use Rattle.records.proofs.VerdictLaws.{refused_not, verdict_back}
use Rattle.weather.proofs.TodayLaws.{DayKnown, day_known}
use Rattle.survey.proofs.CellLaws.{slot_limit, cell_is}
use Rattle.covers.proofs.TableLaws.{count_limit}
use Rattle.survey.proofs.MapLaws.{slot_at_lem}
use Rattle.survey.proofs.CountLaws.{ways_next}
use Rattle.covers.specs.Slots.{cell_from}
use Rattle.covers.specs.Plots.{plots_of, plot_for}
use Rattle.recharge.specs.CellDay.{closed_by, gone_by}
use Rattle.records.specs.Answers.{totals_as}
use Rattle.recharge.specs.Totals.{totals_by}
use Rattle.recharge.specs.Downhill as pass
use Rattle.covers.proofs.PlotLaws.{plot_is}
use Rattle.recharge.proofs.FigureLaws.{plot_fits, store_plot, own_plot, passed_plot, day_plot}

module _ (s : Setup) (st : State) (r : paper.Results) (d : Day) (before ways₀ slots ways order : List ℕ) (t : Today) (blank plots : List ℕ)
    (ok : days.SoundDay s st r d) (m : Mapped s before ways₀ slots ways order)
    (is_today : t ≡ today s.climate st.past d) (filled : plots ≡ plots_of t s.covers blank) where
  chart : Charted s
  chart = ok.setup.charted

  -- one entry a cell
  record Lent : Type 0 where
    directions : length s.direction ≡ cells s
    covers : length s.cover ≡ cells s
    waters : length s.available ≡ cells s
    soils : length st.soil ≡ cells s
    snows : length st.snow ≡ cells s
    interceptions : length r.intercepted ≡ cells s
    outflows : length r.outflow ≡ cells s
    evapotranspirations : length r.evapotranspired ≡ cells s
    recharges : length r.recharged ≡ cells s
    rejections : length r.rejected ≡ cells s

  lent : Lent
  unfolding paper.lengths_of setup_lengths one_each
  lent =
      let e : one_each (cells s) (paper.lengths_of s st r) ≡ true = ok.setup.lent in
      record {
        directions = eqb-true _ _ (search (and_left, and_right) depth 12);
        covers = eqb-true _ _ (search (and_left, and_right) depth 12);
        waters = eqb-true _ _ (search (and_left, and_right) depth 12);
        soils = eqb-true _ _ (search (and_left, and_right) depth 12);
        snows = eqb-true _ _ (search (and_left, and_right) depth 12);
        interceptions = eqb-true _ _ (search (and_left, and_right) depth 12);
        outflows = eqb-true _ _ (search (and_left, and_right) depth 12);
        evapotranspirations = eqb-true _ _ (search (and_left, and_right) depth 12);
        recharges = eqb-true _ _ (search (and_left, and_right) depth 12);
        rejections = eqb-true _ _ (search (and_left, and_right) depth 12);
      }

  ways_point : next_as (cells s) ways ≡ next s
  ways_point = ap (next_as (cells s)) m.ways_are ∙ ways_next (cells s) (next s) ways₀ (next_past s chart lent.directions lent.covers)

  known : DayKnown d
  known = day_known d ok.day

  few : t.gross ≤ most_gross
  unfolding today
  few = rw is_today known.gross

  -- each cell's slot, way and plot
  slot_small : (i : ℕ) → i < cells s → slot_of s i < 256
  slot_small i h = omega (arith, slot_limit s chart i h, count_limit s.covers (record { sized = chart.sized; fit = chart.entered }))

  slot_here : (i : ℕ) → i < cells s → get_or slots i 0 ≡ slot_of s i
  slot_here = slot_at_lem s chart before slots m.slots_are m.slots_sized lent.waters

  way_here : (i : ℕ) → i < cells s → get_or ways i 0 ≡ next s i
  way_here i h = rw m.ways_are (over_at (cells s) (next s) ways₀ 0 i h)

  -- a slot's curve number is one of the table's
  tabled : (i : ℕ) → i < cells s → SoundCell (cell_from s.covers (slot_of s i) (available_of s i) (next s i))
  tabled i h = rw (cell_is s chart i h) at (sound_cell s chart i h)

  plot_here : (i : ℕ) → i < cells s → pass.plot_of_cell plots slots s.available i ≡ plot_for t (cell s i)
  unfolding pass.plot_of_cell cell_from
  plot_here i h =
      rw (slot_here i h)
      (plot_is t s.covers blank plots few filled (slot_of s i) (slot_limit s chart i h) (slot_small i h) (available_of s i) (next s i)
      (tabled i h).least_N (tabled i h).most_N)
      ∙ ap (plot_for t) (sym (cell_is s chart i h))

  -- what tells open water, and what leaves the grid
  lake : (i : ℕ) → i < cells s → eqb (get_or ways i 0) 4098 ≡ (cell s i).open?
  unfolding cell
  lake i h = rw (way_here i h) (sym (open_by s chart i h))

  closes : (i : ℕ) → i < cells s → pass.closed_at ways i ≡ (cell s i).closed?
  unfolding closed_by cell
  closes i h = rw (way_here i h) (sym (closed_by_lem s chart i h))

  gone_same : (i : ℕ) → i < cells s → pass.gone_at ways i ≡ paper.is_gone s i
  unfolding gone_by paper.is_gone paper.is_leaving next pointed
  gone_same i h = rw (way_here i h) (go (goes s i) (λ j. to_inside s chart i j h))
    where
      go : (g : Goes) → ((j : ℕ) → g ≡ to j → j < cells s) → gone_by (pointed g) ≡ paper.is_leaving g
      go (to j) inside =
          let all : cells s ≤ 4096 = chart.few in
          let low : j < cells s = inside j refl in
          rw (ne_eqb j 4096 (λ (same : j ≡ 4096). omega arith), ne_eqb j 4098 (λ (same : j ≡ 4098). omega arith)) refl
      go leaves inside = refl
      go stays inside = refl
      go open_water inside = refl

  -- the lent slices
  abbrev slices : pass.Slices
  slices = pass.slices_of st.soil st.snow r.intercepted r.outflow r.evapotranspired r.recharged r.rejected

  pub ready : pass.Ready t plots slots ways order s.available slices
  unfolding today plot_for
  ready =
      let n = lent.waters in
      record {
        gross = few;
        potential = rw is_today known.potential;
        melts = rw is_today (melt_most d.maximum (let warm = known.maximum in search (and_left, and_right)));
        slots_sized = m.slots_sized;
        pointing = record { most = rw n chart.few; sized = m.ways_sized };
        ordered = rw (n, ways_point) m.ordered;
        sized =
            record {
              soil = lent.soils ∙ sym n;
              snow = lent.snows ∙ sym n;
              intercepted = lent.interceptions ∙ sym n;
              outflow = lent.outflows ∙ sym n;
              evapotranspired = lent.evapotranspirations ∙ sym n;
              recharged = lent.recharges ∙ sym n;
              rejected = lent.rejections ∙ sym n;
            };
        plotted =
            λ i h. let k : i < cells s = rw n at h in
            rw (plot_here i k) (plot_fits t (cell s i) few (sound_cell s chart i k).capacity (curve i k));
        held = λ i h. let k : i < cells s = rw n at h in rw (plot_here i k) (ok.soil i k);
        lying =
            λ i h. let k : i < cells s = rw n at h in
            rw (plot_here i k) (store_plot t (cell s i) (snow_at st i) (ok.snow i k) (λ e. rw is_today (ok.room i k e)));
      }
    where
      curve : (i : ℕ) → i < cells s → curve_number t.condition (cell s i).N ≤ 100
      curve i k = rw is_today (days.small s st r d ok i k)

  -- what a cell passes on, its own water, what arrives at it, and its figures
  passes : (j w : ℕ) → j < cells s → pass.passed_at t plots slots ways s.available st.soil j w ≡ paper.passed s st t j w
  unfolding pass.passed_at paper.passed
  passes j w h = rw (plot_here j h) (passed_plot t (cell s j) (get_or ways j 0) (lake j h) (closes j h) (soil_at st j) w (ok.soil j h))

  owns : (j : ℕ) → j < cells s → pass.own_at t plots slots s.available st.snow j ≡ paper.own s st t j
  unfolding pass.own_at paper.own
  owns j h = rw (plot_here j h) (own_plot t (cell s j) (snow_at st j) (ok.snow j h))

  inflow_same : (i : ℕ) → pass.inflow_at t plots slots ways s.available st.soil st.snow i ≡ paper.inflow s st t i
  unfolding pass.inflow_at paper.inflow
  inflow_same i =
      rw (lent.waters, ways_point)
      (arriving_same (cells s) (next s) (pass.passed_at t plots slots ways s.available st.soil) (paper.passed s st t)
      (pass.own_at t plots slots s.available st.snow) (paper.own s st t) passes owns i)

  figure_same : (i : ℕ) → i < cells s → pass.figures_at t plots slots ways s.available st.soil st.snow i ≡ paper.figures_of s st d i
  unfolding pass.figures_at paper.figures_of paper.figures
  figure_same i h =
      rw (plot_here i h, inflow_same i) (day_plot t (cell s i) (get_or ways i 0) (lake i h) (closes i h) (soil_at st i) (snow_at st i) _ (ok.soil i h) (ok.snow i h))
      ∙ ap (λ (x : Today). cell_day (cell s i) x (soil_at st i) (snow_at st i) (paper.inflow s st x i)) is_today

  totals_same : (n gross : ℕ) (f : ℕ → Figures) (closed? gone? : ℕ → Bool) → n ≡ cells s → gross ≡ d.gross
      → ((i : ℕ) → i < cells s → f i ≡ paper.figures_of s st d i) → ((i : ℕ) → i < cells s → closed? i ≡ (cell s i).closed?)
      → ((i : ℕ) → i < cells s → gone? i ≡ paper.is_gone s i) → totals_by n gross f closed? gone? ≡ paper.totals_of s d.gross (paper.figures_of s st d)
  unfolding totals_by paper.totals_of
  totals_same n gross f closed? gone? count rain same closed left =
      rw (count, rain)
      (λ k. record {
        gross = sum (cells s) (λ i. d.gross);
        intercepted = part (λ x. x.intercepted) k;
        evapotranspired = part (λ x. x.evapotranspired) k;
        recharged = part (λ x. x.recharged) k;
        rejected = some closed? (λ i. (cell s i).closed?) closed (λ x. x.rejected) k;
        gone = some gone? (paper.is_gone s) left (λ x. x.outflow) k;
        stored = part (λ x. x.soil + x.snow) k;
      })
    where
      part : (p : Figures → ℕ) → sum (cells s) (λ i. p (f i)) ≡ sum (cells s) (λ i. p (paper.figures_of s st d i))
      part p = sum_cong (cells s) _ _ (λ i h. ap p (same i h))

      some : (a b : ℕ → Bool) → ((i : ℕ) → i < cells s → a i ≡ b i) → (p : Figures → ℕ)
          → sum (cells s) (λ i. given (a i) (p (f i))) ≡ sum (cells s) (λ i. given (b i) (p (paper.figures_of s st d i)))
      some a b e p = sum_cong (cells s) _ _ (λ i h. ap₂ given (e i h) (ap p (same i h)))

  slices_same : (n : ℕ) (f : ℕ → Figures) → n ≡ cells s → ((i : ℕ) → i < cells s → f i ≡ paper.figures_of s st d i)
      → pass.slices_by n f ≡ pass.slices_by (cells s) (paper.figures_of s st d)
  unfolding pass.slices_by
  slices_same n f count same =
      rw count
      (λ k. record {
        soil = part (λ x. x.soil) k;
        snow = part (λ x. x.snow) k;
        intercepted = part (λ x. x.intercepted) k;
        outflow = part (λ x. x.outflow) k;
        evapotranspired = part (λ x. x.evapotranspired) k;
        recharged = part (λ x. x.recharged) k;
        rejected = part (λ x. x.rejected) k;
      })
    where
      part : (p : Figures → ℕ) → made (cells s) (λ i. p (f i)) ≡ made (cells s) (λ i. p (paper.figures_of s st d i))
      part p = made_cong (cells s) _ _ (λ i h. ap p (same i h))

  today_gross : t.gross ≡ d.gross
  unfolding today
  today_gross = ap (λ (x : Today). x.gross) is_today

  -- the whole answer of an accepted day
  pub accepted_answer : paper.verdict_of s st r d ≡ accepted → (past : Past) → past ≡ past_after st.past d → (totals : Totals) → (after : pass.Slices)
      → pass.Ran t plots slots ways s.available st.soil st.snow totals after
      → record {
        verdict = accepted;
        results =
            record {
              intercepted = after.intercepted;
              outflow = after.outflow;
              evapotranspired = after.evapotranspired;
              recharged = after.recharged;
              rejected = after.rejected;
            };
        totals = totals_as totals;
        state = record { soil = after.soil; snow = after.snow; past = past };
      }
      ≡ paper.day_of s st r d
  unfolding paper.outcome_as paper.results_of paper.next_state pass.slices_by
  accepted_answer v past next totals after ran =
      (λ k. record {
        verdict = accepted;
        results =
            record {
              intercepted = (same k).intercepted;
              outflow = (same k).outflow;
              evapotranspired = (same k).evapotranspired;
              recharged = (same k).recharged;
              rejected = (same k).rejected;
            };
        totals = (ran.summed ∙ totals_same _ _ _ _ _ lent.waters today_gross figure_same closes gone_same) k;
        state = record { soil = (same k).soil; snow = (same k).snow; past = next k };
      })
      ∙ sym (days.accepted_is s st r d v)
    where
      same : after ≡ pass.slices_by (cells s) (paper.figures_of s st d)
      same = ran.written ∙ slices_same _ _ lent.waters figure_same

-- a refused day leaves what it was lent
pub refused_answer : (s : Setup) (st : State) (r : paper.Results) (d : Day) (why : code.Refusal) → Err why ≡ verdict_in (paper.verdict_of s st r d)
    → record { verdict = refused (refusal_as why); results = r; totals = paper.no_totals; state = st } ≡ paper.day_of s st r d
refused_answer s st r d why e = go (paper.verdict_of s st r d) refl
  where
    go : (v : Verdict) → paper.verdict_of s st r d ≡ v
        → record { verdict = refused (refusal_as why); results = r; totals = paper.no_totals; state = st } ≡ paper.day_of s st r d
    go accepted q = absurd (refused_not (Err why) why refl (e ∙ ap verdict_in q))
    go (refused w) q =
        (λ k. record {
          verdict = (ap verdict_as (e ∙ ap verdict_in q) ∙ verdict_back (refused w)) k;
          results = r;
          totals = paper.no_totals;
          state = st;
        })
        ∙ sym (days.refused_is s st r d w q)
