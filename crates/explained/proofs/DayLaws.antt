-- One day: where a reason is given the tests have passed, so that the day is accepted, the cell is in the grid, and what the day left of the cell are its figures
-- by the rules. Where the day is refused nothing is run.
use mathlib.Core.Path.{◌≡◌, refl, sym, ap, ◌∙◌}
use mathlib.Core.Bool.{true}
use mathlib.Core.List.{List, [], ◌∷◌, ◌++◌}
use Prim.Native.Nat.{ℕ, ◌≤◌, ◌<◌}
use native.Mathlib.Omega.{arith}
use lib.ListN.{length, get_or, take, replicate, get_or-append}
use borrow.Author.Tests.{eqb-true, leb-true}
use Rattle.theory.specs.Lists.{made}
use Rattle.theory.proofs.Cases.{by_cases, and_left, and_right}
use Rattle.theory.proofs.ListLaws.{made_length, made_at}
use Rattle.paper.specs.CellDay.{Figures}
use Rattle.paper.specs.Setup.{Setup, cells, grid_fits}
use Rattle.paper.specs.State.{State, Day}
use Rattle.paper.specs.Refusals.{Refusal, grid, lent, Verdict, accepted, refused, verdict, one_each, setup_lengths}
use Rattle.paper.specs.Day.{Results, Outcome, results_of, next_state, verdict_of, figures_of, outcome_as, day_of}
use Rattle.paper.specs.Reasons.{Explanation, because, by_refusal, explained_as, facts_at, why_tests, why_of}
use Rattle.paper.proofs.DayLaws.{accepted_is}
use Rattle.paper.proofs.RefusalLaws.{pass_single, fail_single}
use Rattle.records.specs.Answers.{results_as}
use Rattle.reasons.specs.Asked.{asked_of}
use Rattle.reasons.proofs.WhyLaws.{five, zeros_each, why_refused, day_accepted}
use Rattle.words.specs.Writing.{farthest, Wrote}
use Rattle.std.specs.declared.ops.ControlFlow.{ControlFlow}
use Rattle.std.proofs.Common.{Continue, Break}
use Rattle.explained.specs.Lines.{figures_line, most_figures_line}
use Rattle.explained.specs.Telling.{TellsReason, figures_by, state_after, DayTold}
use Rattle.explained.proofs.TellingLaws.{Because, ByRefusal, reason_given_lem, reason_refused, lines_told, last_told}

-- results that nothing has written: parts of arrays of zeros
abbrev pub none : ℕ → Results
none n = let part = take n (replicate {A = ℕ} 4096 0) in results_as part part part part part

module _ (s : Setup) (st : State) (d : Day) (i : ℕ) where
  -- a reason is given
  module _ (given : Because (why_of s st d i)) where
    never : (why : Refusal) → by_refusal why ≡ why_of s st d i → ⊥
    never why e = let is = given.is in let z : ◌≡◌ {A = ℕ} 0 1 = cc in omega arith

    passed : verdict (why_tests s st d i) ≡ accepted
    passed = go (verdict (why_tests s st d i)) refl
      where
        go : (v : Verdict) → verdict (why_tests s st d i) ≡ v → verdict (why_tests s st d i) ≡ accepted
        go accepted e = e
        go (refused why) e = absurd (never why (sym (unfold why_of explained_as in ap (explained_as (facts_at s st d i)) e)))

    abbrev lengths : List ℕ
    lengths = setup_lengths s ++ length st.soil ∷ length st.snow ∷ []

    refusal_no : (why : Refusal) → verdict (why_tests s st d i) ≡ refused why → ⊥
    refusal_no why e = let is = passed in let z : ◌≡◌ {A = ℕ} 0 1 = cc in omega arith

    tested : (grid_fits s.grid ≡ true) × (one_each (cells s) lengths ≡ true)
    tested =
        by_cases (grid_fits s.grid)
        (λ fits.
        by_cases (one_each (cells s) lengths) (λ each. (fits, each))
        (λ bad. absurd (refusal_no lent (unfold why_tests in pass_single _ (grid_fits s.grid) grid fits ∙ fail_single _ (one_each (cells s) lengths) lent bad))))
        (λ bad. absurd (refusal_no grid (unfold why_tests in fail_single _ (grid_fits s.grid) grid bad)))

    counted : length s.direction ≡ cells s
    unfolding one_each setup_lengths
    counted = eqb-true _ _ (and_left _ _ tested.1)

    pub few : length s.direction ≤ 4096
    unfolding grid_fits
    few = let fits = tested.0 in let most : cells s ≤ 4096 = leb-true (cells s) 4096 (search (and_left, and_right)) in omega (arith, counted)

    abbrev before : Results
    before = none (length s.direction)

    each : one_each (cells s) (five before) ≡ true
    each = ap (λ (n : ℕ). one_each n (five before)) (sym counted) ∙ zeros_each (length s.direction) few

    accepted_day : (i < cells s) × (verdict_of s st before d ≡ accepted)
    accepted_day = go (asked_of (cells s) i (day_of s st before d).verdict) refl
      where
        go : (v : Verdict) → asked_of (cells s) i (day_of s st before d).verdict ≡ v → (i < cells s) × (verdict_of s st before d ≡ accepted)
        go accepted is = day_accepted s st d i before each is
        go (refused why) is = absurd (never why (why_refused s st d i before each why is))

    own : (l : List ℕ) (f : ℕ → ℕ) → l ≡ made (cells s) f → get_or l i 0 ≡ f i
    own l f e = ap (λ (x : List ℕ). get_or x i 0) e ∙ made_at (cells s) f 0 i accepted_day.0

    front : (l more : List ℕ) (f : ℕ → ℕ) → l ≡ made (cells s) f → get_or (l ++ more) i 0 ≡ f i
    front l more f e = get_or-append l more 0 i (rw (ap length e ∙ made_length (cells s) f) accepted_day.0) ∙ own l f e

    -- what the day left, the results at the fronts of longer lists
    module _ (o : Outcome) (is : o ≡ day_of s st before d) where
      accepted_o : o ≡ outcome_as s st before d accepted
      accepted_o = is ∙ accepted_is s st before d accepted_day.1

      by_rules : (more₁ more₂ more₃ more₄ more₅ : List ℕ)
          → figures_by (o.results.intercepted ++ more₁) (o.results.outflow ++ more₂) (o.results.evapotranspired ++ more₃) (o.results.recharged ++ more₄)
          (o.results.rejected ++ more₅) o.state.soil o.state.snow i
          ≡ figures_of s st d i
      unfolding figures_by outcome_as results_of next_state
      by_rules more₁ more₂ more₃ more₄ more₅ =
          λ k. record {
            intercepted = front o.results.intercepted more₁ _ (ap (λ (x : Outcome). x.results.intercepted) accepted_o) k;
            outflow = front o.results.outflow more₂ _ (ap (λ (x : Outcome). x.results.outflow) accepted_o) k;
            evapotranspired = front o.results.evapotranspired more₃ _ (ap (λ (x : Outcome). x.results.evapotranspired) accepted_o) k;
            recharged = front o.results.recharged more₄ _ (ap (λ (x : Outcome). x.results.recharged) accepted_o) k;
            rejected = front o.results.rejected more₅ _ (ap (λ (x : Outcome). x.results.rejected) accepted_o) k;
            soil = own o.state.soil _ (ap (λ (x : Outcome). x.state.soil) accepted_o) k;
            snow = own o.state.snow _ (ap (λ (x : Outcome). x.state.snow) accepted_o) k;
          }

      next_is : o.state ≡ state_after s st d (why_of s st d i)
      unfolding state_after outcome_as
      next_is = ap (λ (x : Outcome). x.state) accepted_o ∙ sym (ap (state_after s st d) given.is)

  unmoved : (e : Explanation) → ByRefusal e → state_after s st d e ≡ st
  unfolding state_after
  unmoved (because reason a b) refusal = absurd (let is = refusal.is in let z : ◌≡◌ {A = ℕ} 0 1 = cc in omega arith)
  unmoved (by_refusal why) refusal = refl

  -- the code's answer, with the line that was written of it
  module _ (e : Explanation) (asked : e ≡ why_of s st d i) (buffer between : List ℕ) (told : ControlFlow ℕ ℕ) (line : TellsReason d.serial e buffer between told) where
    pub given_reason : (next : ℕ) → told ≡ Continue next → Because (why_of s st d i)
    given_reason next is = rw asked at (reason_given_lem d.serial buffer between told next e line is)

    pub day_refused : (next : ℕ) → told ≡ Break next → DayTold s st d i st buffer between told
    day_refused next is =
        record {
          lines = rw (← asked) (last_told d.serial buffer between told next e (figures_of s st d i) line is);
          state = sym (ap (state_after s st d) (sym asked) ∙ unmoved e (reason_refused d.serial buffer between told next e line is));
        }

    module _ (next : ℕ) (is : told ≡ Continue next) where
      abbrev reason : Because (why_of s st d i)
      reason = given_reason next is

      pub day_told :
          (o : Outcome) → o ≡ day_of s st (none (length s.direction)) d → (more₁ more₂ more₃ more₄ more₅ : List ℕ) (f : Figures)
          → f ≡ figures_by (o.results.intercepted ++ more₁) (o.results.outflow ++ more₂) (o.results.evapotranspired ++ more₃) (o.results.recharged ++ more₄)
          (o.results.rejected ++ more₅) o.state.soil o.state.snow i
          → (after : List ℕ) (last : ℕ) → length buffer ≤ farthest → Wrote most_figures_line next (figures_line f) between after last
          → DayTold s st d i o.state buffer after (Continue last)
      day_told o left more₁ more₂ more₃ more₄ more₅ f read after last long w =
          let figures : f ≡ figures_of s st d i = read ∙ by_rules reason o left more₁ more₂ more₃ more₄ more₅ in
          record {
            lines = rw (← asked, ← figures) (lines_told d.serial buffer between told next e f after last long line is w);
            state = next_is reason o left;
          }
