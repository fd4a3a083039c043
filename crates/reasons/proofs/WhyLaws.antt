-- The call from its parts: a refusal of tests 1 and 2 before the day, the day's own verdict with the cell asked about, and where that accepts, the reason read
-- back from what the day left of the cell.
use mathlib.Core.Path.{◌≡◌, refl, sym, ap, ◌∙◌, subst}
use mathlib.Core.Bool.{Bool, true, false, true≢false}
use mathlib.Core.List.{List, [], ◌∷◌, ◌++◌}
use Prim.Native.Nat.{ℕ, ◌≤◌, ◌<◌}
use native.Mathlib.Omega.{arith}
use lib.Dec.{eqb, ltb}
use lib.ListN.{length, get_or, take, replicate, length-replicate, get_or-append}
use lib.Seq.{length-take-le}
use borrow.Author.Tests.{ltb-true, eqb-true, eq-eqb}
use Rattle.theory.specs.Lists.{made}
use Rattle.theory.proofs.Cases.{by_cases, and_left, and_right}
use Rattle.theory.proofs.ListLaws.{made_length, made_at}
use Rattle.paper.specs.Limits.{within}
use Rattle.paper.specs.Setup.{Setup, cells, grid_fits, cover_of, group_of, available_of}
use Rattle.paper.specs.State.{State, Day, soil_at}
use Rattle.paper.specs.Refusals.{Refusal, grid, lent, cell_numbers, number_of, Verdict, accepted, refused, verdict_number, verdict, single, one_each, setup_lengths, map_tests, setup_tests, day_tests}
use Rattle.paper.specs.Day.{Results, Outcome, results_of, next_state, lengths_of, verdict_of, figures_of, outcome_as, day_of}
use Rattle.paper.specs.Reasons.{facts_at, by_refusal, explained, explained_as, why_of}
use Rattle.paper.proofs.RefusalLaws.{refused_then}
use Rattle.paper.proofs.DayLaws.{sound_day, verdict_is, accepted_is}
use Rattle.records.specs.Answers.{results_as}
use Rattle.survey.proofs.CallLaws.{both, each_both, grid_bad, more_bad}
use Rattle.reasons.specs.Grounds.{ground_by}
use Rattle.reasons.specs.Reading.{left_by, facts_from}
use Rattle.reasons.specs.Asked.{asked_of}
use Rattle.reasons.proofs.AskingLaws.{asked_inside, asked_early, asked_outside, tests_asked}
use Rattle.reasons.proofs.FactLaws.{left_of, cell_read}

-- the lengths of the results
abbrev pub five : Results → List ℕ
five r =
    length r.intercepted ∷ length r.outflow ∷ length r.evapotranspired ∷ length r.recharged ∷ length r.rejected ∷ []

-- results that nothing has written: the fronts of arrays of zeros
module _ (n : ℕ) (few : n ≤ 4096) where
  abbrev zeros : List ℕ
  zeros = replicate 4096 0

  pub zeros_room : n ≤ length zeros
  zeros_room = rw (length-replicate {A = ℕ} 4096 0) few

  pub zeros_each : one_each n (five (results_as (take n zeros) (take n zeros) (take n zeros) (take n zeros) (take n zeros))) ≡ true
  unfolding one_each
  zeros_each = let one : eqb (length (take n zeros)) n ≡ true = eq-eqb _ _ (length-take-le n zeros zeros_room) in rw one refl

asked_accepted : (n i : ℕ) (v : Verdict) → asked_of n i v ≡ accepted → (i < n) × (v ≡ accepted)
asked_accepted n i v e =
    by_cases (ltb i n) (λ there. (ltb-true i n there, sym (asked_inside n i v there) ∙ e))
    (λ out. absurd (by_cases (within 1 4 (verdict_number v))
    (λ early. clash early (sym (asked_early n i v early) ∙ e))
    (λ late. let z : refused (cell_numbers i) ≡ accepted = sym (asked_outside n i v out late) ∙ e in let y : ◌≡◌ {A = ℕ} 0 1 = cc in omega arith)))
  where
    clash : within 1 4 (verdict_number v) ≡ true → v ≡ accepted → ⊥
    clash early is = unfold verdict_number in true≢false (sym (subst (λ (u : Verdict). within 1 4 (verdict_number u) ≡ true) is early))

module _ (s : Setup) (st : State) (d : Day) (i : ℕ) where
  abbrev lengths : List ℕ
  lengths = setup_lengths s ++ length st.soil ∷ length st.snow ∷ []

  -- what the tests say, the call answers
  by_verdict : (v : Verdict) → asked_of (cells s) i (verdict (setup_tests s lengths ++ day_tests s st d)) ≡ v → explained_as (facts_at s st d i) v ≡ why_of s st d i
  unfolding why_of
  by_verdict v e = ap (explained_as (facts_at s st d i)) (sym e ∙ sym (tests_asked s st d i))

  -- tests 1 and 2 before the day
  early_refusal : (why : Refusal) → within 1 4 (verdict_number (refused why)) ≡ true → verdict (setup_tests s lengths) ≡ refused why → by_refusal why ≡ why_of s st d i
  unfolding explained_as
  early_refusal why early e =
      by_verdict (refused why)
      (ap (asked_of (cells s) i) (refused_then (day_tests s st d) (setup_tests s lengths) why e) ∙ asked_early (cells s) i (refused why) early)

  pub why_grid : grid_fits s.grid ≡ false → by_refusal grid ≡ why_of s st d i
  unfolding verdict_number number_of
  why_grid e = early_refusal grid refl (grid_bad s lengths e)

  pub why_lent : grid_fits s.grid ≡ true → one_each (cells s) (length st.soil ∷ length st.snow ∷ []) ≡ false → by_refusal lent ≡ why_of s st d i
  unfolding verdict_number number_of
  why_lent g e = early_refusal lent refl (more_bad s (length st.soil ∷ length st.snow ∷ []) g e)

  -- a day over results of one entry a cell
  module _ (r : Results) (each : one_each (cells s) (five r) ≡ true) where
    same_tests : verdict_of s st r d ≡ verdict (setup_tests s lengths ++ day_tests s st d)
    unfolding verdict_of lengths_of setup_lengths setup_tests
    same_tests =
        ap (λ (b : Bool). verdict (single (grid_fits s.grid) grid ∷ single b lent ∷ (map_tests s ++ day_tests s st d)))
        (each_both (cells s) lengths (five r) ∙ rw each (both (one_each (cells s) lengths)))

    -- by the day's own verdict
    by_day : (v : Verdict) → asked_of (cells s) i (day_of s st r d).verdict ≡ v → explained_as (facts_at s st d i) v ≡ why_of s st d i
    by_day v e = by_verdict v (sym (ap (asked_of (cells s) i) (verdict_is s st r d ∙ same_tests)) ∙ e)

    pub why_refused : (why : Refusal) → asked_of (cells s) i (day_of s st r d).verdict ≡ refused why → by_refusal why ≡ why_of s st d i
    unfolding explained_as
    why_refused why e = by_day (refused why) e

    pub day_accepted : asked_of (cells s) i (day_of s st r d).verdict ≡ accepted → (i < cells s) × (verdict_of s st r d ≡ accepted)
    day_accepted e =
        let passed : (i < cells s) × ((day_of s st r d).verdict ≡ accepted) = asked_accepted (cells s) i (day_of s st r d).verdict e in
        (passed.0, sym (verdict_is s st r d) ∙ passed.1)

    pub why_told : asked_of (cells s) i (day_of s st r d).verdict ≡ accepted
        → explained (facts_from (ground_by s.covers (cover_of s i) (group_of s i) (available_of s i)) d.gross d.potential (soil_at st i) (left_of (figures_of s st d i))) ≡ why_of s st d i
    unfolding explained_as
    why_told e =
        let passed : (i < cells s) × (verdict_of s st r d ≡ accepted) = day_accepted e in
        cell_read s st r d (sound_day s st r d passed.1) i passed.0 ∙ by_day accepted e

    -- a cell of a day that was accepted has its numbers
    pub cell_lent : asked_of (cells s) i (day_of s st r d).verdict ≡ accepted → (i < length s.cover) × (i < length s.group) × (i < length s.available)
    unfolding one_each lengths_of setup_lengths
    cell_lent e =
        let passed : (i < cells s) × (verdict_of s st r d ≡ accepted) = day_accepted e in
        let lent : one_each (cells s) (lengths_of s st r) ≡ true = (sound_day s st r d passed.1).setup.lent in
        let a : length s.cover ≡ cells s = eqb-true _ _ (search (and_left, and_right)) in
        let b : length s.group ≡ cells s = eqb-true _ _ (search (and_left, and_right)) in
        let c : length s.available ≡ cells s = eqb-true _ _ (search (and_left, and_right)) in
        (rw a passed.0, rw b passed.0, rw c passed.0)

-- what a day leaves of a cell stands in the arrays of which it was lent the fronts
module _ (s : Setup) (st : State) (r : Results) (d : Day) (i : ℕ) (ok : verdict_of s st r d ≡ accepted) (h : i < cells s) where
  front : (l more : List ℕ) (f : ℕ → ℕ) → l ≡ made (cells s) f → get_or (l ++ more) i 0 ≡ f i
  front l more f e =
      get_or-append l more 0 i (rw (ap length e ∙ made_length (cells s) f) h) ∙ ap (λ (x : List ℕ). get_or x i 0) e ∙ made_at (cells s) f 0 i h

  pub left_is : (o : Outcome) → o ≡ day_of s st r d → (a b c e f g : List ℕ)
      → left_by (o.results.outflow ++ a) (o.results.evapotranspired ++ b) (o.results.recharged ++ c) (o.results.rejected ++ e) (o.state.soil ++ f) (o.state.snow ++ g) i
      ≡ left_of (figures_of s st d i)
  unfolding outcome_as results_of next_state
  left_is o is a b c e f g =
      let q : o ≡ outcome_as s st r d accepted = is ∙ accepted_is s st r d ok in
      (λ k.
      record {
        outflow = front o.results.outflow a _ (ap (λ (x : Outcome). x.results.outflow) q) k;
        evapotranspired = front o.results.evapotranspired b _ (ap (λ (x : Outcome). x.results.evapotranspired) q) k;
        recharged = front o.results.recharged c _ (ap (λ (x : Outcome). x.results.recharged) q) k;
        rejected = front o.results.rejected e _ (ap (λ (x : Outcome). x.results.rejected) q) k;
        soil = front o.state.soil f _ (ap (λ (x : Outcome). x.state.soil) q) k;
        snow = front o.state.snow g _ (ap (λ (x : Outcome). x.state.snow) q) k;
      })
