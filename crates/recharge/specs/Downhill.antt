-- The pass downhill over all cells: what it asks for, and what it leaves.
use Rattle.std.specs.Prelude.{Bool, List, ◌≡◌, ℕ, ◌+◌, ◌≤◌, ◌<◌, length, get_or}
use Rattle.theory.specs.Lists.{made}
use Rattle.paper.specs.Limits.{most_gross, most_potential, most_snow}
use Rattle.paper.specs.CellDay.{Today, Figures}
use Rattle.paper.specs.Flow.{arriving, water}
use Rattle.survey.specs.Charts.{next_as, WaysFit, OrderedBy}
use Rattle.recharge.specs.Depths.{melt_limit}
use Rattle.covers.specs.Plots.{Plot, plot_by}
use Rattle.recharge.specs.CellDay.{own_by, passed_by, figures_by, closed_by, gone_by, PlotFits, CellReady}
use Rattle.records.specs.Answers.{totals_as}
use Rattle.recharge.specs.Totals.{totals_by}
use Rattle.records.specs.declared.answers.Totals.{Totals}

-- the plot of cell i
unfoldable pub plot_of_cell : List ℕ → List ℕ → List ℕ → ℕ → Plot
plot_of_cell plots slots available i = plot_by plots (get_or slots i 0) (get_or available i 0)

-- what it passes on of water w, and its own water
unfoldable pub passed_at : Today → List ℕ → List ℕ → List ℕ → List ℕ → List ℕ → ℕ → ℕ → ℕ
passed_at t plots slots ways available soil i w = passed_by t (plot_of_cell plots slots available i) (get_or ways i 0) (get_or soil i 0) w

unfoldable pub own_at : Today → List ℕ → List ℕ → List ℕ → List ℕ → ℕ → ℕ
own_at t plots slots available snow i = own_by t (plot_of_cell plots slots available i) (get_or snow i 0)

-- rule 4's inflow, and the figures of the cell's day
module _ (t : Today) (plots slots ways available soil snow : List ℕ) where
  unfoldable pub inflow_at : ℕ → ℕ
  inflow_at =
      arriving (length available) (next_as (length available) ways) (passed_at t plots slots ways available soil)
      (water (length available) (next_as (length available) ways) (passed_at t plots slots ways available soil) (own_at t plots slots available snow))

  unfoldable pub figures_at : ℕ → Figures
  figures_at i = figures_by t (plot_of_cell plots slots available i) (get_or ways i 0) (get_or soil i 0) (get_or snow i 0) (inflow_at i)

-- the figures of a cell at which that much has arrived, by the lent lists
unfoldable pub day_at : Today → List ℕ → List ℕ → List ℕ → List ℕ → List ℕ → List ℕ → ℕ → ℕ → Figures
day_at t plots slots available soil snow arrived way i =
    figures_by t (plot_of_cell plots slots available i) way (get_or soil i 0) (get_or snow i 0) (get_or arrived i 0)

-- what reading a cell's day asks for
pub record LentAt (t : Today) (f plots slots available soil snow arrived : List ℕ) (i : ℕ) : Type 0 where
  pub small : i < 4096
  pub waters : i < length available
  pub soils : i < length soil
  pub snows : i < length snow
  pub ready : CellReady t (plot_of_cell plots slots available i) (get_or soil i 0) (get_or snow i 0) (get_or arrived i 0) f

abbrev pub closed_at : List ℕ → ℕ → Bool
closed_at ways i = closed_by (get_or ways i 0)

abbrev pub gone_at : List ℕ → ℕ → Bool
gone_at ways i = gone_by (get_or ways i 0)

-- the seven slices that the pass writes
pub record Slices : Type 0 where
  pub soil : List ℕ
  pub snow : List ℕ
  pub intercepted : List ℕ
  pub outflow : List ℕ
  pub evapotranspired : List ℕ
  pub recharged : List ℕ
  pub rejected : List ℕ

abbrev pub slices_of : List ℕ → List ℕ → List ℕ → List ℕ → List ℕ → List ℕ → List ℕ → Slices
slices_of soil snow intercepted outflow evapotranspired recharged rejected =
    record {
      soil = soil;
      snow = snow;
      intercepted = intercepted;
      outflow = outflow;
      evapotranspired = evapotranspired;
      recharged = recharged;
      rejected = rejected;
    }

-- one entry a cell in each
pub record Sized (n : ℕ) (s : Slices) : Type 0 where
  pub soil : length s.soil ≡ n
  pub snow : length s.snow ≡ n
  pub intercepted : length s.intercepted ≡ n
  pub outflow : length s.outflow ≡ n
  pub evapotranspired : length s.evapotranspired ≡ n
  pub recharged : length s.recharged ≡ n
  pub rejected : length s.rejected ≡ n

-- each cell's figures
unfoldable pub slices_by : ℕ → (ℕ → Figures) → Slices
slices_by n figure =
    record {
      soil = made n (λ i. (figure i).soil);
      snow = made n (λ i. (figure i).snow);
      intercepted = made n (λ i. (figure i).intercepted);
      outflow = made n (λ i. (figure i).outflow);
      evapotranspired = made n (λ i. (figure i).evapotranspired);
      recharged = made n (λ i. (figure i).recharged);
      rejected = made n (λ i. (figure i).rejected);
    }

-- a day within its limits, and cells whose plots and stores are; with an order of them
pub record Ready (t : Today) (plots slots ways order available : List ℕ) (s : Slices) : Type 0 where
  pub gross : t.gross ≤ most_gross
  pub potential : t.potential ≤ most_potential
  pub melts : t.meltable ≤ melt_limit
  pub slots_sized : length slots ≡ 4096
  pub pointing : WaysFit (length available) ways
  pub ordered : OrderedBy (length available) (next_as (length available) ways) order
  pub sized : Sized (length available) s
  pub plotted : (i : ℕ) → i < length available → PlotFits (plot_of_cell plots slots available i)
  pub held : (i : ℕ) → i < length available → get_or s.soil i 0 ≤ (plot_of_cell plots slots available i).capacity
  pub lying : (i : ℕ) → i < length available → get_or s.snow i 0 + (plot_of_cell plots slots available i).snowfall ≤ most_snow

-- every cell's stores and results, from the stores before, and the totals summed from them
pub record Ran (t : Today) (plots slots ways available soil snow : List ℕ) (totals : Totals) (after : Slices) : Type 0 where
  pub summed : totals_as totals ≡ totals_by (length available) t.gross (figures_at t plots slots ways available soil snow) (closed_at ways) (gone_at ways)
  pub written : after ≡ slices_by (length available) (figures_at t plots slots ways available soil snow)
