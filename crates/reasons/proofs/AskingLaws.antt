-- The tests of the call: the cell asked about stands between tests 4 and 5, so that a refusal of tests 1 to 4 stays, and any other verdict gives way where the
-- cell is outside the grid. And a store copied to the front of an array.
use mathlib.Core.Path.{◌≡◌, refl, sym, ap, ◌∙◌, subst}
use mathlib.Core.Bool.{true, false}
use mathlib.Core.List.{List, [], ◌∷◌, ◌++◌}
use Prim.Native.Nat.{ℕ, ◌+◌, ◌≤◌, ◌<◌}
use native.Mathlib.Omega.{arith}
use lib.Dec.{leb, ltb}
use lib.ListN.{length, get_or, replicate, drop, length-replicate}
use lib.Seq.{take_at}
use borrow.Author.Tests.{le-leb, lt-leb}
use Rattle.theory.specs.Lists.{made, made_over}
use Rattle.theory.proofs.Cases.{by_cases, and_both, and_second, cond_true, cond_false}
use Rattle.theory.proofs.ListLaws.{made_length, made_of, over_length}
use Rattle.paper.specs.Limits.{within}
use Rattle.paper.specs.Setup.{Setup, cells}
use Rattle.paper.specs.State.{State, Day}
use Rattle.paper.specs.Refusals.{Refusal, grid, lent, cover_table, cell_numbers, ring, climate, day_record, serial_gap, state_at, snowfall, number_of, Verdict, accepted, refused, verdict_number, Test, verdict, single, setup_lengths, lent_first, table_tests, flow_tests, map_tests, setup_tests, day_tests}
use Rattle.paper.specs.Reasons.{why_tests}
use Rattle.paper.proofs.RefusalLaws.{pass_single, fail_single, accepted_then, refused_then, Numbered, numbered_front, numbered_rest, number_within, day_numbered}
use Rattle.reasons.specs.Asked.{asked_of, Copied}

pub copied_all : (store copy : List ℕ) → length store ≤ 4096 → copy ≡ made_over (length store) (λ k. get_or store k 0) (replicate 4096 0) → Copied store copy
unfolding made_over
copied_all store copy few e =
    let room : length store ≤ length (replicate {A = ℕ} 4096 0) = rw (length-replicate {A = ℕ} 4096 0) few in
    record {
      room = rw (e, over_length (length store) (λ k. get_or store k 0) (replicate 4096 0) room) room;
      same =
          rw e (take_at (made (length store) (λ k. get_or store k 0)) (drop (length store) (replicate 4096 0)) (length store) (made_length (length store) _))
          ∙ made_of store 0;
    }

-- the cell asked about, by whether it is in the grid and whether one of tests 1 to 4 refused
module _ (n cell : ℕ) (v : Verdict) where
  pub asked_inside : ltb cell n ≡ true → asked_of n cell v ≡ v
  unfolding asked_of
  asked_inside e = cond_true (ltb cell n) e _ _

  pub asked_early : within 1 4 (verdict_number v) ≡ true → asked_of n cell v ≡ v
  unfolding asked_of
  asked_early e =
      by_cases (ltb cell n) asked_inside (λ out. cond_false (ltb cell n) out _ _ ∙ cond_true (within 1 4 (verdict_number v)) e _ _)

  pub asked_outside : ltb cell n ≡ false → within 1 4 (verdict_number v) ≡ false → asked_of n cell v ≡ refused (cell_numbers cell)
  unfolding asked_of
  asked_outside out e = cond_false (ltb cell n) out _ _ ∙ cond_false (within 1 4 (verdict_number v)) e _ _

-- a verdict of the first four tests, and one of later ones
early_number : (why : Refusal) → 1 ≤ number_of why → number_of why ≤ 4 → within 1 4 (verdict_number (refused why)) ≡ true
unfolding verdict_number
early_number why least most = and_both _ _ (le-leb 1 (number_of why) least) (le-leb (number_of why) 4 most)

least_number : (why : Refusal) → 1 ≤ number_of why
unfolding number_of
least_number grid = omega arith
least_number lent = omega arith
least_number (cover_table e) = omega arith
least_number (cell_numbers i) = omega arith
least_number (ring i) = omega arith
least_number climate = omega arith
least_number day_record = omega arith
least_number serial_gap = omega arith
least_number (state_at i) = omega arith
least_number (snowfall i) = omega arith

pub early_refusal : (v : Verdict) (why : Refusal) → v ≡ refused why → number_of why ≤ 4 → within 1 4 (verdict_number v) ≡ true
early_refusal v why e most = rw e (early_number why (least_number why) most)

pub late_refusal : (v : Verdict) (why : Refusal) → v ≡ refused why → 4 < number_of why → within 1 4 (verdict_number v) ≡ false
unfolding verdict_number
late_refusal v why e more = rw e (and_second (leb 1 (number_of why)) _ (lt-leb (number_of why) 4 more))

pub no_number : (v : Verdict) → v ≡ accepted → within 1 4 (verdict_number v) ≡ false
unfolding verdict_number
no_number v e = rw e refl

later_number : (vs : List Test) → Numbered 5 vs → (v : Verdict) → verdict vs ≡ v → within 1 4 (verdict_number v) ≡ false
unfolding verdict_number
later_number vs names accepted e = refl
later_number vs names (refused why) e =
    and_second (leb 1 (number_of why)) _ (lt-leb (number_of why) 4 (number_within 5 vs names why e).0)

between : (us vs : List Test) → Numbered 1 (us ++ vs) → length us ≡ 4 → (n cell : ℕ)
    → verdict (us ++ (single (ltb cell n) (cell_numbers cell) ∷ vs)) ≡ asked_of n cell (verdict (us ++ vs))
between us vs names four n cell = go (verdict us) refl
  where
    go : (v : Verdict) → verdict us ≡ v → verdict (us ++ (single (ltb cell n) (cell_numbers cell) ∷ vs)) ≡ asked_of n cell (verdict (us ++ vs))
    go (refused why) e =
        let found : (1 ≤ number_of why) × (number_of why < 1 + length us) = number_within 1 us (numbered_front 1 us vs names) why e in
        refused_then _ us why e
        ∙ sym (ap (asked_of n cell) (refused_then vs us why e) ∙ asked_early n cell (refused why) (early_number why found.0 (omega arith)))
    go accepted e =
        let rest : Numbered 5 vs = subst (λ (k : ℕ). Numbered (1 + k) vs) four (numbered_rest 1 us vs names) in
        accepted_then _ us e
        ∙ by_cases (ltb cell n)
        (λ there. pass_single vs _ (cell_numbers cell) there ∙ sym (asked_inside n cell (verdict vs) there))
        (λ out. fail_single vs _ (cell_numbers cell) out ∙ sym (asked_outside n cell (verdict vs) out (later_number vs rest (verdict vs) refl)))
        ∙ sym (ap (asked_of n cell) (accepted_then vs us e))

-- the call's tests are the day's, with the cell asked about
module _ (s : Setup) (st : State) (d : Day) (i : ℕ) where
  abbrev lengths : List ℕ
  lengths = setup_lengths s ++ length st.soil ∷ length st.snow ∷ []

  pub tests_asked : verdict (why_tests s st d i) ≡ asked_of (cells s) i (verdict (setup_tests s lengths ++ day_tests s st d))
  unfolding why_tests setup_tests map_tests
  tests_asked =
      between (lent_first s lengths (table_tests s)) (flow_tests s ++ day_tests s st d) (day_numbered s lengths st d) refl (cells s) i
