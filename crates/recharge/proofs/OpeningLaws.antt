-- How a period opens: tests 1 to 6, test 2 also of the lists that come with the days. Where they refuse, nothing has changed; where they pass, the fresh state stands.
use mathlib.Core.Bool.{Bool, true, false, ◌&&◌}
use mathlib.Core.List.{List, [], ◌∷◌, ◌++◌, append-nil}
use mathlib.Core.Path.{◌≡◌, refl, sym, ap, ◌∙◌}
use Prim.Native.Nat.{ℕ, ◌*◌, ◌≤◌}
use native.Mathlib.Omega.{arith}
use lib.Dec.{leb}
use lib.IntN.{ℤ}
use lib.ListN.{length}
use borrow.Author.Tests.{leb-true, eqb-true}
use Rattle.theory.proofs.Cases.{and_left, and_right, and_second}
use Rattle.paper.specs.Setup.{Setup, Grid, cells, cells_of, grid_fits}
use Rattle.paper.specs.State.{no_past, fresh_state}
use Rattle.paper.specs.Refusals.{Refusal, grid, lent, Verdict, accepted, refused, verdict, one_each, setup_lengths, setup_tests}
use Rattle.paper.specs.Day.{Fresh, check_of, fresh_as, fresh_of}
use Rattle.paper.proofs.RefusalLaws.{pass_single, fail_single}
use Rattle.paper.proofs.SetupLaws.{sound}
use Rattle.records.specs.Past.{past_as}
use Rattle.records.specs.Verdicts.{refusal_as, verdict_as}
use Rattle.records.specs.Verdicts as code
use Rattle.std.specs.Prelude.{Ok, Err}
use Rattle.survey.proofs.CallLaws.{each_both, more_fit}
use Rattle.recharge.specs.Period.{lists_fit, opening, Went, Periods}
use Rattle.recharge.specs.declared.periods.Ended.{Ended}

clash : (why : Refusal) → accepted ≡ refused why → ⊥
clash why e = let z : ◌≡◌ {A = ℕ} 0 1 = cc in omega arith

and_true : (a : Bool) → (a && true) ≡ a
and_true true = refl
and_true false = refl

pub few_cells : (g : Grid) → grid_fits g ≡ true → cells_of g ≤ 4096
unfolding grid_fits
few_cells g e = leb-true _ _ (and_right (leb 1 g.width && leb 1 g.height) _ e)

pub lists_sized : (n days sums totals : ℕ) → lists_fit n days sums totals ≡ true → (sums ≡ 5 * n) × (totals ≡ days)
unfolding lists_fit
lists_sized n days sums totals e = (eqb-true _ _ (search (and_left, and_right)), eqb-true _ _ (search (and_left, and_right)))

module _ (s : Setup) (soil snow : List ℕ) where
  abbrev lengths : List ℕ
  lengths = setup_lengths s ++ length soil ∷ length snow ∷ []

  pub grid_refuses : (lists : Bool) → grid_fits s.grid ≡ false → opening s soil snow lists ≡ refused grid
  unfolding opening
  grid_refuses lists e = fail_single _ _ grid e

  pub lists_refuse : (lists : Bool) → grid_fits s.grid ≡ true → lists ≡ false → opening s soil snow lists ≡ refused lent
  unfolding opening
  lists_refuse lists g e = pass_single _ _ grid g ∙ fail_single _ _ lent (and_second (one_each (cells s) lengths) lists e)

  -- lists that fit leave it to the setup's own tests
  setup_opens : (lists : Bool) → lists ≡ true → opening s soil snow lists ≡ verdict (setup_tests s lengths)
  unfolding opening setup_tests
  setup_opens lists e = rw (e, and_true (one_each (cells s) lengths)) refl

  fresh_verdict : (fresh_of s soil snow).verdict ≡ verdict (setup_tests s lengths)
  unfolding fresh_of
  fresh_verdict = go (verdict (setup_tests s lengths))
    where
      go : (v : Verdict) → (fresh_as s soil snow v).verdict ≡ v
      go accepted = unfold fresh_as in refl
      go (refused why) = unfold fresh_as in refl

  module _ (lists : Bool) (fit : lists ≡ true) (f : Fresh) (is : f ≡ fresh_of s soil snow) where
    pub opens_as : opening s soil snow lists ≡ f.verdict
    opens_as = setup_opens lists fit ∙ sym fresh_verdict ∙ sym (ap (λ (x : Fresh). x.verdict) is)

    -- refused, the stores are as they were lent
    pub fresh_kept : (why : Refusal) → f.verdict ≡ refused why → (f.state.soil ≡ soil) × (f.state.snow ≡ snow)
    unfolding fresh_of fresh_as
    fresh_kept why v =
        let refuses : verdict (setup_tests s lengths) ≡ refused why = sym (setup_opens lists fit) ∙ opens_as ∙ v in
        let handed : f ≡ fresh_as s soil snow (refused why) = is ∙ ap (fresh_as s soil snow) refuses in
        (ap (λ (x : Fresh). x.state.soil) handed, ap (λ (x : Fresh). x.state.snow) handed)

    -- accepted, the setup has passed, and the state is fresh
    module _ (v : f.verdict ≡ accepted) where
      accepts : verdict (setup_tests s lengths) ≡ accepted
      accepts = sym (setup_opens lists fit) ∙ opens_as ∙ v

      pub fresh_is : f.state ≡ fresh_state s
      unfolding fresh_of fresh_as
      fresh_is = ap (λ (x : Fresh). x.state) (is ∙ ap (fresh_as s soil snow) accepts)

      pub setup_passed : check_of s ≡ accepted
      setup_passed =
          sym (more_fit s (length soil ∷ length snow ∷ [])
          (and_right (one_each (cells s) (setup_lengths s)) _ (sym (each_both _ (setup_lengths s) _) ∙ (sound s lengths [] (append_none ∙ accepts)).lent)))
          ∙ accepts
        where
          append_none : verdict (setup_tests s lengths ++ []) ≡ verdict (setup_tests s lengths)
          append_none = ap verdict (append-nil (setup_tests s lengths))

-- the promise of a period that is refused before any day
pub unopened : (s : Setup) (ns : List ℤ) (soil₀ snow₀ sums totals : List ℕ) (w : Refusal)
    → opening s soil₀ snow₀ (lists_fit (cells s) (length ns) (length sums) (length totals)) ≡ refused w
    → (r : Ended) → verdict_as r.verdict ≡ refused w → r.days ≡ 0 → past_as r.past ≡ no_past → (soil snow : List ℕ) → soil ≡ soil₀ → snow ≡ snow₀
    → Periods s ns soil₀ snow₀ sums totals r soil snow sums totals
unopened s ns soil₀ snow₀ sums totals w opened r said none_yet no_past_lem soil snow soils snows =
    record {
      unbegun =
          λ why v.
          record {
            verdict_is = said ∙ sym opened ∙ v;
            no_days = none_yet;
            no_past_lem = no_past_lem;
            soil_kept = soils;
            snow_kept = snows;
            sums_kept = refl;
            totals_kept = refl;
          };
      went = λ v. absurd (clash w (sym v ∙ opened));
    }

-- and of one that is not
pub opened : (s : Setup) (ns : List ℤ) (soil₀ snow₀ sums₀ totals₀ : List ℕ)
    → opening s soil₀ snow₀ (lists_fit (cells s) (length ns) (length sums₀) (length totals₀)) ≡ accepted
    → (r : Ended) (soil snow sums totals : List ℕ) → Went s ns totals₀ r soil snow sums totals → Periods s ns soil₀ snow₀ sums₀ totals₀ r soil snow sums totals
opened s ns soil₀ snow₀ sums₀ totals₀ v r soil snow sums totals went =
    record { unbegun = λ why e. absurd (clash why (sym v ∙ e)); went = λ e. went }
