-- A day's ten tests one after another: tests 1 and 2 of the stores and results, the survey's six, then the day's, the cells found by their slots.
-- A refusal of some of them is the refusal of all; and where a setup passed, tests 7 to 10 by slots are the paper's.
use mathlib.Core.Path.{◌≡◌, refl, sym, ap, ◌∙◌, subst}
use mathlib.Core.Bool.{true, false}
use mathlib.Core.List.{List, [], ◌∷◌, ◌++◌}
use Prim.Native.Nat.{ℕ, ◌≤◌}
use native.Mathlib.Omega.{arith}
use borrow.Author.Tests.{eqb-true}
use Rattle.theory.proofs.Cases.{by_cases, and_left, and_right}
use Rattle.paper.specs.Limits.{most_gross}
use Rattle.paper.specs.Setup.{Setup, Grid, cells, cells_of, grid_fits}
use Rattle.paper.specs.State.{State, Past, Day, day_fits, follows}
use Rattle.paper.specs.CellDay.{Today, today}
use Rattle.paper.specs.Refusals.{Refusal, grid, lent, day_record, serial_gap, Verdict, accepted, refused, Test, verdict, single, one_each, setup_lengths, setup_tests, day_tests}
use Rattle.paper.specs.Day.{check_of}
use Rattle.paper.proofs.RefusalLaws.{pass_single, fail_single, accepted_then, refused_then}
use Rattle.records.specs.Verdicts.{verdict_in}
use Rattle.records.specs.Verdicts as code
use Rattle.std.specs.Prelude.{Ok}
use Rattle.weather.specs.Today.{weather_of}
use Rattle.weather.proofs.TodayLaws.{day_known, today_fits}
use Rattle.covers.specs.Plots.{plots_of}
use Rattle.covers.proofs.PlotLaws.{fall_is}
use Rattle.covers.proofs.TableLaws.{count_limit}
use Rattle.survey.proofs.CallLaws.{grid_bad, more_bad, more_fit}
use Rattle.stores.specs.States.{lent_tests, state_tests}
use Rattle.stores.specs.Snowfall.{Falls, snow_tests}
use Rattle.stores.proofs.TestLaws as stores
use Rattle.admission.specs.Tests.{later_tests, all_tests}

-- no verdict is both
clash : (why : Refusal) → accepted ≡ refused why → ⊥
clash why e = let z : ◌≡◌ {A = ℕ} 0 1 = cc in omega arith

-- a refusal of the first tests stands, whatever comes after them
pub stands : (us vs : List Test) (v : code.Verdict) → v ≡ verdict_in (verdict us) → (v ≡ Ok tt → ⊥) → v ≡ verdict_in (verdict (us ++ vs))
stands us vs v e not = go (verdict us) refl
  where
    go : (u : Verdict) → verdict us ≡ u → v ≡ verdict_in (verdict (us ++ vs))
    go accepted q = absurd (not (e ∙ ap verdict_in q))
    go (refused why) q = e ∙ ap verdict_in (q ∙ sym (refused_then vs us why q))

-- tests 1 and 2 of some of the lent slices, and what they say of all
module _ (g : Grid) (more : List ℕ) where
  pub no_grid : grid_fits g ≡ false → verdict (lent_tests g more) ≡ refused grid
  unfolding lent_tests
  no_grid f = fail_single _ _ grid f

  pub not_each : grid_fits g ≡ true → one_each (cells_of g) more ≡ false → verdict (lent_tests g more) ≡ refused lent
  unfolding lent_tests
  not_each f e = pass_single _ _ grid f ∙ fail_single _ _ lent e

  pub lent_good : grid_fits g ≡ true → one_each (cells_of g) more ≡ true → verdict (lent_tests g more) ≡ accepted
  unfolding lent_tests verdict
  lent_good f e = pass_single (single (one_each (cells_of g) more) lent ∷ []) _ grid f ∙ pass_single [] _ lent e

  pub lent_passes : verdict (lent_tests g more) ≡ accepted → one_each (cells_of g) more ≡ true
  lent_passes v =
      by_cases (grid_fits g)
      (λ f. by_cases (one_each (cells_of g) more) (λ e. e)
      (λ e. absurd (clash lent (sym v ∙ not_each f e))))
      (λ f. absurd (clash grid (sym v ∙ no_grid f)))

lent_refuses : (s : Setup) (more : List ℕ) (why : Refusal) → verdict (lent_tests s.grid more) ≡ refused why → verdict (setup_tests s (setup_lengths s ++ more)) ≡ refused why
lent_refuses s more why v =
    by_cases (grid_fits s.grid)
    (λ g. by_cases (one_each (cells s) more)
    (λ e. absurd (clash why (sym (lent_good s.grid more g e) ∙ v)))
    (λ e. more_bad s more g e ∙ sym (not_each s.grid more g e) ∙ v))
    (λ g. grid_bad s _ g ∙ sym (no_grid s.grid more g) ∙ v)

-- the stores have one entry a cell
pub two_each : (n a b : ℕ) (more : List ℕ) → one_each n (a ∷ b ∷ more) ≡ true → (a ≡ n) × (b ≡ n)
unfolding one_each
two_each n a b more e = (eqb-true _ _ (search and_left), eqb-true _ _ (search (and_left, and_right)))

-- tests 7 and 8 before others
module _ (g : Grid) (covers slots available soil snow : List ℕ) (past : Past) (d : Day) (plots : List ℕ) where
  abbrev later : List Test
  later = later_tests g covers slots available soil snow past d plots

  pub day_bad : day_fits d ≡ false → verdict later ≡ refused day_record
  unfolding later_tests
  day_bad e = fail_single _ _ day_record e

  module _ (day : day_fits d ≡ true) where
    pub serial_bad : follows past.last d.serial ≡ false → verdict later ≡ refused serial_gap
    unfolding later_tests
    serial_bad e = pass_single _ _ day_record day ∙ fail_single _ _ serial_gap e

    pub record_good : follows past.last d.serial ≡ true → verdict later ≡ verdict (state_tests g covers slots available soil snow past ++ snow_tests plots slots snow)
    unfolding later_tests
    record_good e = pass_single _ _ day_record day ∙ pass_single _ _ serial_gap e

-- of a setup that passed, with its slots and the day's plots
module _ (s : Setup) (st : State) (d : Day) (slots plots₀ : List ℕ) (ok : stores.Testable s st slots) (t : Today) (is : t ≡ weather_of s.climate st.past d) where
  abbrev plots : List ℕ
  plots = plots_of t s.covers plots₀

  abbrev us : List Test
  us = state_tests s.grid s.covers slots s.available st.soil st.snow st.past

  abbrev vs : List Test
  vs = snow_tests plots slots st.snow

  abbrev read : Today
  read = today s.climate st.past d

  module _ (day : day_fits d ≡ true) where
    -- a state that fits has a memory that fits, so that its weather is the paper's
    pub weather_is : verdict (stores.ninth s st ∷ []) ≡ accepted → t ≡ read
    weather_is v = is ∙ today_fits s.climate st.past d day (stores.memory_kept s st v)

    little : t ≡ read → t.gross ≤ most_gross
    unfolding today
    little e = rw e (day_known d day).gross

    falls : t ≡ read → Falls s.covers plots read
    falls e =
        subst (λ (x : Today). Falls s.covers plots x) e
        (record {
          each = λ slot h. fall_is t s.covers plots₀ plots (little e) refl slot h (omega (arith, count_limit s.covers (stores.table s st slots ok)));
        })

    state_then : (v : Verdict) → verdict (stores.ninth s st ∷ []) ≡ v → verdict (us ++ vs) ≡ verdict (stores.ninth s st ∷ stores.tenth s st read ∷ [])
    state_then accepted q =
        let kept : verdict us ≡ accepted = stores.state_paper s st slots ok ∙ q in
        accepted_then vs us kept
        ∙ stores.snow_paper s st slots ok kept plots read (falls (weather_is q))
        ∙ sym (accepted_then (stores.tenth s st read ∷ []) (stores.ninth s st ∷ []) q)
    state_then (refused why) q =
        refused_then vs us why (stores.state_paper s st slots ok ∙ q) ∙ sym (refused_then (stores.tenth s st read ∷ []) (stores.ninth s st ∷ []) why q)

  pub later_paper : verdict (later_tests s.grid s.covers slots s.available st.soil st.snow st.past d plots) ≡ verdict (day_tests s st d)
  unfolding day_tests
  later_paper =
      by_cases (day_fits d)
      (λ day. by_cases (follows st.past.last d.serial)
      (λ next. record_good _ _ _ _ _ _ _ d _ day next ∙ state_then day _ refl
      ∙ sym (pass_single (single (follows st.past.last d.serial) serial_gap ∷ stores.ninth s st ∷ stores.tenth s st read ∷ []) _ day_record day
      ∙ pass_single (stores.ninth s st ∷ stores.tenth s st read ∷ []) _ serial_gap next))
      (λ next. serial_bad _ _ _ _ _ _ _ d _ day next
      ∙ sym (pass_single (single (follows st.past.last d.serial) serial_gap ∷ stores.ninth s st ∷ stores.tenth s st read ∷ []) _ day_record day
      ∙ fail_single (stores.ninth s st ∷ stores.tenth s st read ∷ []) _ serial_gap next)))
      (λ day. day_bad _ _ _ _ _ _ _ d _ day
      ∙ sym (fail_single (single (follows st.past.last d.serial) serial_gap ∷ stores.ninth s st ∷ stores.tenth s st read ∷ []) _ day_record day))

-- all ten, with the lengths of the stores and results: a refusal of some of the first is the refusal of all, and where they pass the day's decide
module _ (s : Setup) (more : List ℕ) (st : State) (d : Day) where
  abbrev all : Verdict
  all = verdict (all_tests s more st d)

  abbrev first : Verdict
  first = verdict (lent_tests s.grid more)

  pub lent_decides : (why : Refusal) → first ≡ refused why → all ≡ refused why
  lent_decides why v = refused_then (day_tests s st d) (setup_tests s (setup_lengths s ++ more)) why (lent_refuses s more why v)

  module _ (each : one_each (cells s) more ≡ true) where
    pub survey_decides : (why : Refusal) → check_of s ≡ refused why → all ≡ refused why
    survey_decides why v = refused_then (day_tests s st d) (setup_tests s (setup_lengths s ++ more)) why (more_fit s more each ∙ v)

    pub day_decides : check_of s ≡ accepted → all ≡ verdict (day_tests s st d)
    day_decides v = accepted_then (day_tests s st d) (setup_tests s (setup_lengths s ++ more)) (more_fit s more each ∙ v)
