-- The calls' first two tests, and what they leave the survey: a grid within its limits, with one entry a cell in every lent slice.
use mathlib.Core.Path.{◌≡◌, refl, sym, ap, ◌∙◌}
use mathlib.Core.Bool.{Bool, true, false, ◌&&◌, and_assoc}
use mathlib.Core.List.{List, [], ◌∷◌, ◌++◌}
use Prim.Native.Nat.{ℕ}
use native.Mathlib.Omega.{arith}
use lib.Dec.{eqb}
use borrow.Author.Tests.{leb-true, eqb-true}
use Rattle.theory.proofs.Cases.{and_left, and_right, and_second}
use Rattle.paper.specs.Setup.{Setup, cells, grid_fits}
use Rattle.paper.specs.Day.{check_of}
use Rattle.paper.specs.Refusals.{Refusal, grid, lent, Verdict, accepted, verdict, single, refused, one_each, setup_lengths, setup_tests, map_tests}
use Rattle.paper.proofs.RefusalLaws.{pass_single, fail_single}
use Rattle.records.specs.Verdicts.{refusal_in, verdict_in}
use Rattle.records.specs.Verdicts as code
use Rattle.std.specs.Prelude.{Ok, Err}
use Rattle.records.proofs.VerdictLaws.{accepted_back}
use Rattle.survey.specs.Charts.{Wiped, Surveyable, Chart, Surveyed}

pub both : (b : Bool) → (b && true) ≡ b
both true = refl
both false = refl

-- one entry a cell in the slices of both lists
pub each_both : (n : ℕ) (xs ys : List ℕ) → one_each n (xs ++ ys) ≡ (one_each n xs && one_each n ys)
unfolding one_each
each_both n [] ys = refl
each_both n (x ∷ xs) ys = ap (λ (b : Bool). eqb x n && b) (each_both n xs ys) ∙ sym (and_assoc (eqb x n) (one_each n xs) (one_each n ys))

module _ (s : Setup) where
  module _ (lengths : List ℕ) where
    pub grid_bad : grid_fits s.grid ≡ false → verdict (setup_tests s lengths) ≡ refused grid
    unfolding setup_tests
    grid_bad e = fail_single _ _ grid e

    pub lent_bad : grid_fits s.grid ≡ true → one_each (cells s) lengths ≡ false → verdict (setup_tests s lengths) ≡ refused lent
    unfolding setup_tests
    lent_bad g e = pass_single _ _ grid g ∙ fail_single _ _ lent e

    pub on_the_map : grid_fits s.grid ≡ true → one_each (cells s) lengths ≡ true → verdict (setup_tests s lengths) ≡ verdict (map_tests s)
    unfolding setup_tests
    on_the_map g e = pass_single _ _ grid g ∙ pass_single _ _ lent e

  pub surveyable : grid_fits s.grid ≡ true → one_each (cells s) (setup_lengths s) ≡ true → Surveyable s
  unfolding grid_fits setup_lengths one_each
  surveyable g e =
      record {
        wide = leb-true _ _ (search (and_left, and_right));
        high = leb-true _ _ (search (and_left, and_right));
        few = leb-true _ _ (search (and_left, and_right));
        directions = eqb-true _ _ (search (and_left, and_right));
        covers = eqb-true _ _ (search (and_left, and_right));
        groups = eqb-true _ _ (search (and_left, and_right));
        waters = eqb-true _ _ (search (and_left, and_right));
      }

  -- a setup refused leaves the arrays empty
  pub refuse_survey : (before ways₀ : List ℕ) (r : code.Verdict) (why : Refusal) (slots ways order : List ℕ) → check_of s ≡ refused why → r ≡ Err (refusal_in why) → Wiped slots ways order
      → Surveyed s before ways₀ r slots ways order
  refuse_survey before ways₀ r why slots ways order v e wiped =
      record {
        verdict_is = e ∙ sym (ap verdict_in v);
        mapped = λ a. absurd (let z : ◌≡◌ {A = ℕ} 0 1 = cc in omega arith);
        wiped = λ w q. wiped;
      }

  module _ (grid : grid_fits s.grid ≡ true) (each : one_each (cells s) (setup_lengths s) ≡ true) where
    check_is : check_of s ≡ verdict (map_tests s)
    unfolding check_of
    check_is = on_the_map (setup_lengths s) grid each

    pub chart_refuses : (before ways₀ : List ℕ) (r : code.Verdict) (slots ways order : List ℕ) → r ≡ verdict_in (verdict (map_tests s)) → (r ≡ Ok tt → ⊥) → Wiped slots ways order
        → Surveyed s before ways₀ r slots ways order
    chart_refuses before ways₀ r slots ways order e not wiped = go (verdict (map_tests s)) refl
      where
        go : (v : Verdict) → verdict (map_tests s) ≡ v → Surveyed s before ways₀ r slots ways order
        go accepted q = absurd (not (e ∙ ap verdict_in q))
        go (refused why) q = refuse_survey before ways₀ r why slots ways order (check_is ∙ q) (e ∙ ap verdict_in q) wiped

    pub chart_passes : (before ways₀ slots ways order : List ℕ) → Chart s before ways₀ (Ok tt) slots ways order → Surveyed s before ways₀ (Ok tt) slots ways order
    chart_passes before ways₀ slots ways order chart =
        record {
          verdict_is = chart.verdict_is ∙ sym (ap verdict_in check_is);
          mapped = λ a. chart.mapped (sym check_is ∙ a);
          wiped = λ why q. absurd (let v : check_of s ≡ accepted = accepted_back _ (chart.verdict_is ∙ sym (ap verdict_in check_is)) in let z : ◌≡◌ {A = ℕ} 0 1 = cc in omega arith);
        }

  -- with more slices lent: where each of them has one entry a cell, the verdict is the setup check's
  module _ (more : List ℕ) where
    pub more_fit : one_each (cells s) more ≡ true → verdict (setup_tests s (setup_lengths s ++ more)) ≡ check_of s
    unfolding check_of setup_tests
    more_fit e =
        ap (λ (b : Bool). verdict (single (grid_fits s.grid) grid ∷ single b lent ∷ map_tests s))
        (each_both (cells s) (setup_lengths s) more ∙ rw e (both (one_each (cells s) (setup_lengths s))))

    pub more_bad : grid_fits s.grid ≡ true → one_each (cells s) more ≡ false → verdict (setup_tests s (setup_lengths s ++ more)) ≡ refused lent
    more_bad g e = lent_bad (setup_lengths s ++ more) g (each_both (cells s) (setup_lengths s) more ∙ and_second (one_each (cells s) (setup_lengths s)) _ e)
