-- A run's start: the slices laid out are the paper's setup, and the fresh state on them, or its refusal, decides the whole text.
use mathlib.Core.Path.{◌≡◌, sym, ap, ◌∙◌}
use mathlib.Core.List.{List}
use Prim.Native.Nat.{ℕ}
use native.Mathlib.Omega.{arith}
use lib.ListN.{length, take, replicate}
use Rattle.theory.specs.Lists.{made}
use Rattle.theory.proofs.ListLaws.{made_length}
use Rattle.paper.specs.Day.{Fresh, fresh_of, no_results}
use Rattle.paper.specs.Refusals.{accepted, refused, Refusal}
use Rattle.paper.specs.Setup as paper
use Rattle.records.specs.Grids.{climate_as, setup_of}
use Rattle.records.specs.declared.setups.Setup.{Setup}
use Rattle.lines.specs.Lines.{refusal}
use Rattle.text.specs.Laying.{Laid}
use Rattle.text.specs.Program.{cell_count, day_count, day_at, setup, days_text, fresh_text, start_text, run_text}
use Rattle.text.specs.Run.{Coded, Complete, Lent, DaysReady}
use Rattle.text.specs.declared.taking.Layout.{Layout}
use Rattle.text.proofs.LayingLaws.{cells_counted, cells_fit}
use Rattle.records.proofs.FrontLaws.{zeros}

-- the stores before the first day: a part of an array of zeros each
module _ (ns : List ℕ) (layout : Layout) (c : Complete ns layout) where
  abbrev part : List ℕ
  part = take layout.cells (replicate 4096 0)

  zeroed : part ≡ replicate (cell_count ns) 0
  zeroed = zeros layout.cells 4096 (cells_fit ns layout c) ∙ ap (λ (n : ℕ). replicate n 0) (cells_counted ns layout c)

  pub lent : Coded ns → Lent ns layout part part
  lent coded = record { coded = coded; placed = c.placed; few = c.cells; soils = zeroed; snows = zeroed }

module _ (ns : List ℕ) (layout : Layout) (s : Setup) (soil snow : List ℕ) (laid : Laid ns s) (lent : Lent ns layout soil snow) where
  each : length s.direction.now ≡ cell_count ns
  unfolding setup
  each = ap length laid.directions ∙ made_length _ _

  pub days_ready : DaysReady ns layout s.direction.now
  days_ready = record { coded = lent.coded; placed = lent.placed; few = omega (arith, each, lent.few) }

  same_setup : setup_of s ≡ setup ns
  unfolding setup
  same_setup = λ k. record {
    grid = record { width = (laid.grid k).width; height = (laid.grid k).height };
    climate = climate_as (laid.climate k);
    covers = laid.table k;
    direction = laid.directions k;
    cover = laid.codes k;
    group = laid.groups k;
    available = laid.waters k;
  }

  abbrev first : Fresh
  first = fresh_of (setup ns) (replicate (cell_count ns) 0) (replicate (cell_count ns) 0)

  -- what the library says of the slices is what the paper says of the setup
  of_setup : (f : Fresh) → f ≡ fresh_of (setup_of s) soil snow → f ≡ first
  of_setup f q = q ∙ (λ k. fresh_of (same_setup k) (lent.soils k) (lent.snows k))

  pub start_refused : (f : Fresh) (why : Refusal) → f ≡ fresh_of (setup_of s) soil snow → f.verdict ≡ refused why → run_text ns ≡ refusal why
  unfolding run_text start_text fresh_text
  start_refused f why q e =
      ap (fresh_text (setup ns) (made (day_count ns) (day_at ns)) first) (sym (ap (λ (f : Fresh). f.verdict) (of_setup f q)) ∙ e)

  pub start_runs :
      (f : Fresh) → f ≡ fresh_of (setup_of s) soil snow → f.verdict ≡ accepted
      → run_text ns ≡ days_text (setup_of s) f.state (no_results (length s.direction.now)) 0 (made (day_count ns) (day_at ns))
  unfolding run_text start_text fresh_text paper.cells_of cell_count setup
  start_runs f q e =
      ap (fresh_text (setup ns) (made (day_count ns) (day_at ns)) first) (sym (ap (λ (f : Fresh). f.verdict) (of_setup f q)) ∙ e)
      ∙ sym (λ k. days_text (same_setup k) (of_setup f q k).state (no_results (each k)) 0 (made (day_count ns) (day_at ns)))
