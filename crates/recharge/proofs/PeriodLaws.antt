-- A period day by day: before day k it stands where the paper's run stands, its sums and totals are those of the days before, and every sum has room for one day
-- more, since no more days are accepted than there are serials. An accepted day keeps this; a refused one, or the last, ends it.
use mathlib.Core.Bool.{Bool, true, cond}
use mathlib.Core.List.{List}
use mathlib.Core.Path.{◌≡◌, refl, sym, ap, ◌∙◌}
use Prim.Native.Nat.{ℕ, ◌+◌, ◌*◌, ◌/◌, ◌≤◌, ◌<◌}
use native.Mathlib.Nat.{le_refl, zero-add}
use native.Mathlib.Numerals.{add-one}
use native.Mathlib.Omega.{arith}
use lib.Dec.{ltb}
use lib.IntN.{ℤ}
use lib.ListN.{length, get_or, replicate, get_or-eq_default}
use lib.Seq.{sets, length-sets, length-take-le}
use borrow.Author.Tests.{eq-eqb, lt-ltb, le-ltb}
use Rattle.theory.specs.Lists.{made}
use Rattle.theory.specs.Sums.{sum}
use Rattle.theory.proofs.Cases.{below_or_not, and_both, cond_true, cond_false}
use Rattle.theory.proofs.ListLaws.{made_at, made_length, sets_append}
use Rattle.paper.specs.Setup.{Setup, cells}
use Rattle.paper.specs.State.{State, Day, fresh_state}
use Rattle.paper.specs.Refusals.{Refusal, accepted, refused, one_each}
use Rattle.paper.specs.Day.{Results, Totals, Outcome, day_of}
use Rattle.paper.specs.Run.{start, days}
use Rattle.paper.specs.Period.{fresh_run, after, outcome_on, AllAccepted, summed}
use Rattle.paper.proofs.DayLaws.{verdict_is, refused_is}
use Rattle.paper.proofs.PeriodLaws.{state_next, results_next, few_days}
use Rattle.records.specs.Past.{state_as}
use Rattle.records.specs.Verdicts.{refusal_as, verdict_as}
use Rattle.records.specs.Verdicts as code
use Rattle.std.specs.Prelude.{Ok, Err}
use Rattle.records.specs.declared.past.Past.{Past}
use Rattle.records.proofs.FrontLaws.{parts, Room, no_results_lem, room}
use Rattle.daybook.specs.Days.{day_in}
use Rattle.daybook.specs.Totals.{seven, ledger}
use Rattle.daybook.proofs.TotalsLaws.{ledger_length}
use Rattle.recharge.specs.Surveyed.{lent_lengths}
use Rattle.recharge.specs.Period.{DayAdded, Addable, SumsOf, Begun, verdict_at, Went}

-- before day k, with the arrays from whose fronts the results are lent
pub record Underway (s : Setup) (ns : List ℤ) (totals₀ : List ℕ) (st : State) (sums totals i o e r j : List ℕ) (k : ℕ) : Type 0 where
  pub within : k ≤ length ns / 7
  pub before : AllAccepted s (fresh_run s) (day_in ns) k
  pub state_is : st ≡ (after s (fresh_run s) (day_in ns) k).state
  pub soils : length st.soil ≡ cells s
  pub snows : length st.snow ≡ cells s
  pub room : Room (length s.available) i o e r j
  pub results_are : parts (length s.available) i o e r j ≡ (after s (fresh_run s) (day_in ns) k).results
  pub sums_are : SumsOf s (day_in ns) k sums
  pub small : (m : ℕ) → get_or sums m 0 ≤ k * (5 * 4294967295)
  pub totals_are : totals ≡ sets totals₀ 0 (ledger (λ j. (outcome_on s (fresh_run s) (day_in ns) j).totals) k)
  pub totals_sized : length totals ≡ length ns

ledger_next : (t : ℕ → Totals) (l : List ℕ) (k : ℕ) → sets (sets l 0 (ledger t k)) (7 * k) (seven (t k)) ≡ sets l 0 (ledger t (k + 1))
unfolding ledger
ledger_next t l k =
    rw (add-one k)
    (sym (sets_append (ledger t k) (seven (t k)) l 0 ∙ ap (λ (a : ℕ). sets (sets l 0 (ledger t k)) a (seven (t k))) (zero-add _ ∙ ledger_length t k)))

no_sum : (n m : ℕ) → get_or (made {A = ℕ} n (λ i. 0)) m 0 ≡ 0
no_sum n m =
    below_or_not m n (λ h. made_at {A = ℕ} n (λ i. 0) 0 m h)
    (λ h. get_or-eq_default (made {A = ℕ} n (λ i. 0)) 0 {n = m} (rw (made_length {A = ℕ} n (λ i. 0)) h))

-- a fresh state has one entry a cell
pub fresh_soils : (s : Setup) (ns : List ℤ) (st : State) (sums totals : List ℕ) → Begun s ns st sums totals → length st.soil ≡ cells s
unfolding fresh_state
fresh_soils s ns st sums totals b = rw b.fresh (made_length (cells s) _)

pub fresh_snows : (s : Setup) (ns : List ℤ) (st : State) (sums totals : List ℕ) → Begun s ns st sums totals → length st.snow ≡ cells s
unfolding fresh_state
fresh_snows s ns st sums totals b = rw b.fresh (made_length (cells s) _)

-- before the first day
pub underway_first : (s : Setup) (ns : List ℤ) (st : State) (sums totals : List ℕ) → Begun s ns st sums totals → length s.available ≡ cells s → cells s ≤ 4096
    → (none : List ℕ) → none ≡ made {A = ℕ} (length sums) (λ i. 0)
    → let l = replicate {A = ℕ} 4096 0 in Underway s ns totals st none totals l l l l l 0
unfolding after start made days summed sum ledger
underway_first s ns st sums totals b wet few none is =
    record {
      within = omega arith;
      before = λ j h. absurd (omega arith);
      state_is = b.fresh;
      soils = fresh_soils s ns st sums totals b;
      snows = fresh_snows s ns st sums totals b;
      room = room (length s.available) 4096 (rw wet few);
      results_are = rw wet (no_results_lem (cells s) 4096 few);
      sums_are =
          record {
            sized = rw is (made_length {A = ℕ} (length sums) (λ i. 0)) ∙ b.sized;
            intercepted = λ i h. rw is (no_sum (length sums) i);
            outflow = λ i h. rw is (no_sum (length sums) (cells s + i));
            evapotranspired = λ i h. rw is (no_sum (length sums) (2 * cells s + i));
            recharged = λ i h. rw is (no_sum (length sums) (3 * cells s + i));
            rejected = λ i h. rw is (no_sum (length sums) (4 * cells s + i));
          };
      small = λ m. rw is (omega (arith, no_sum (length sums) m));
      totals_are = refl;
      totals_sized = b.room;
    }

module _ (s : Setup) (ns : List ℤ) (totals₀ : List ℕ) (st : State) (sums totals i o e r j : List ℕ) (k : ℕ)
    (u : Underway s ns totals₀ st sums totals i o e r j k) (wet : length s.available ≡ cells s) where
  abbrev on : ℕ → Outcome
  on = outcome_on s (fresh_run s) (day_in ns)

  -- one entry a cell in what the day is lent
  pub each : one_each (cells s) (lent_lengths st (parts (length s.available) i o e r j)) ≡ true
  unfolding one_each
  each =
      and_both _ _ (eq-eqb _ _ u.soils) (and_both _ _ (eq-eqb _ _ u.snows)
      (and_both _ _ (eq-eqb _ _ (length-take-le _ _ u.room.intercepted ∙ wet)) (and_both _ _ (eq-eqb _ _ (length-take-le _ _ u.room.outflow ∙ wet))
      (and_both _ _ (eq-eqb _ _ (length-take-le _ _ u.room.evapotranspired ∙ wet)) (and_both _ _ (eq-eqb _ _ (length-take-le _ _ u.room.recharged ∙ wet))
      (and_both _ _ (eq-eqb _ _ (length-take-le _ _ u.room.rejected ∙ wet)) refl))))))

  -- the day's outcome is the run's
  pub outcome_is : (d : Day) → d ≡ day_in ns k → (out : Outcome) → out ≡ day_of s st (parts (length s.available) i o e r j) d → out ≡ on k
  unfolding outcome_on
  outcome_is d is out e = e ∙ (λ t. day_of s (u.state_is t) (u.results_are t) (is t))

  -- room for one day more
  pub addable : (rs : Results) → cells s ≤ 4096 → let n = length s.available in length rs.intercepted ≡ n → length rs.outflow ≡ n
      → length rs.evapotranspired ≡ n → length rs.recharged ≡ n → length rs.rejected ≡ n → Addable n sums rs
  addable rs few a b c d f =
      record {
        few = rw wet few;
        sized = rw wet u.sums_are.sized;
        room = λ m. omega (arith, u.small m, few_days s (fresh_run s) (day_in ns) k u.before);
        intercepted = a;
        outflow = b;
        evapotranspired = c;
        recharged = d;
        rejected = f;
      }

  -- after the last day
  pub all_ended : length ns / 7 ≤ k → (soil snow : List ℕ) (past : Past) → state_as soil snow past ≡ st
      → Went s ns totals₀ (record { verdict = (Ok tt); days = length ns / 7; past = past }) soil snow sums totals
  unfolding verdict_at
  all_ended last soil snow past kept =
      let all : length ns / 7 ≡ k = omega (arith, u.within) in
      record {
        within = le_refl (length ns / 7);
        before = rw all u.before;
        verdict_is = sym (cond_false (ltb (length ns / 7) (length ns / 7)) (le-ltb (length ns / 7) (length ns / 7) (le_refl (length ns / 7))) _ _);
        whole = λ passed. refl;
        state_is = kept ∙ rw all u.state_is;
        sums_are = rw all u.sums_are;
        totals_are = rw all u.totals_are;
      }

  module _ (out : Outcome) (is : out ≡ on k) where
    verdict_same : out.verdict ≡ (on k).verdict
    verdict_same = ap (λ (x : Outcome). x.verdict) is

    -- a refused day leaves the state as it was
    pub refused_state : (why : Refusal) → out.verdict ≡ refused why → out.state ≡ (after s (fresh_run s) (day_in ns) k).state
    unfolding outcome_on
    refused_state why v =
        ap (λ (x : Outcome). x.state)
        (is ∙ refused_is s _ _ _ why (sym (verdict_is s _ _ _) ∙ sym verdict_same ∙ v))

    refused_by : (v : code.Verdict) → out.verdict ≡ verdict_as v → (v ≡ Ok tt → ⊥) → out.state ≡ (after s (fresh_run s) (day_in ns) k).state
    refused_by (Ok tt) e not = absurd (not refl)
    refused_by (Err why) e not = refused_state (refusal_as why) e

    -- and ends the period
    pub refused_ends : (v : code.Verdict) → out.verdict ≡ verdict_as v → (v ≡ Ok tt → ⊥) → k < length ns / 7
        → (soil snow : List ℕ) (past : Past) → state_as soil snow past ≡ out.state
        → Went s ns totals₀ (record { verdict = v; days = k; past = past }) soil snow sums totals
    unfolding verdict_at
    refused_ends v e not more soil snow past kept =
        record {
          within = u.within;
          before = u.before;
          verdict_is = sym e ∙ verdict_same ∙ sym (cond_true (ltb k (length ns / 7)) (lt-ltb k _ more) _ _);
          whole = λ passed. absurd (not passed);
          state_is = kept ∙ refused_by v e not;
          sums_are = u.sums_are;
          totals_are = u.totals_are;
        }

    -- an accepted one is one more
    module _ (ok : out.verdict ≡ accepted) (more : k < length ns / 7) where
      before_next : AllAccepted s (fresh_run s) (day_in ns) (k + 1)
      before_next a h = below_or_not a k (λ less. u.before a less) (λ not. let same : a ≡ k = omega arith in rw same (sym verdict_same ∙ ok))

      state_after_lem : out.state ≡ (after s (fresh_run s) (day_in ns) (k + 1)).state
      state_after_lem = ap (λ (x : Outcome). x.state) is ∙ sym (rw (add-one k) (state_next s (fresh_run s) (day_in ns) k))

      results_after : out.results ≡ (after s (fresh_run s) (day_in ns) (k + 1)).results
      results_after = ap (λ (x : Outcome). x.results) is ∙ sym (rw (add-one k) (results_next s (fresh_run s) (day_in ns) k))

      -- a sum with the day's figure
      one_more_lem : (figure : Results → List ℕ) (m x y : ℕ) → y ≡ summed s (fresh_run s) (day_in ns) figure k m → x ≡ y + get_or (figure out.results) m 0
          → x ≡ summed s (fresh_run s) (day_in ns) figure (k + 1) m
      unfolding summed sum
      one_more_lem figure m x y so gained =
          gained ∙ rw (add-one k) (λ t. so t + get_or (figure ((ap (λ (z : Outcome). z.results) is) t)) m 0)

      pub underway_next :
          (rs : Results) → rs ≡ out.results → (st' : State) → st' ≡ out.state → length st'.soil ≡ cells s → length st'.snow ≡ cells s
          → (sums' : List ℕ) → DayAdded (length s.available) rs sums sums'
          → (totals' : List ℕ) (t : Totals) → t ≡ out.totals → totals' ≡ cond (ltb k (length totals / 7)) (sets totals (7 * k) (seven t)) totals
          → (i' o' e' r' j' : List ℕ) → Room (length s.available) i' o' e' r' j' → parts (length s.available) i' o' e' r' j' ≡ rs
          → Underway s ns totals₀ st' sums' totals' i' o' e' r' j' (k + 1)
      underway_next rs results st' state soils snows sums' gained totals' t told wrote i' o' e' r' j' roomed held =
          let added : DayAdded (cells s) rs sums sums' = rw wet at gained in
          let sum_on : (figure : Results → List ℕ) (m x y : ℕ) → y ≡ summed s (fresh_run s) (day_in ns) figure k m → x ≡ y + get_or (figure rs) m 0
          → x ≡ summed s (fresh_run s) (day_in ns) figure (k + 1) m
          = λ figure m x y so gained. one_more_lem figure m x y so (gained ∙ ap (λ (z : Results). y + get_or (figure z) m 0) results) in
          record {
            within = omega arith;
            before = before_next;
            state_is = state ∙ state_after_lem;
            soils = soils;
            snows = snows;
            room = roomed;
            results_are = held ∙ results ∙ results_after;
            sums_are =
                record {
                  sized = added.kept ∙ u.sums_are.sized;
                  intercepted = λ m h. sum_on (λ z. z.intercepted) m _ _ (u.sums_are.intercepted m h) (added.intercepted m h);
                  outflow = λ m h. sum_on (λ z. z.outflow) m _ _ (u.sums_are.outflow m h) (added.outflow m h);
                  evapotranspired = λ m h. sum_on (λ z. z.evapotranspired) m _ _ (u.sums_are.evapotranspired m h) (added.evapotranspired m h);
                  recharged = λ m h. sum_on (λ z. z.recharged) m _ _ (u.sums_are.recharged m h) (added.recharged m h);
                  rejected = λ m h. sum_on (λ z. z.rejected) m _ _ (u.sums_are.rejected m h) (added.rejected m h);
                };
            small = λ m. omega (arith, added.most m, u.small m);
            totals_are = entered;
            totals_sized = rw wrote (sized (ltb k (length totals / 7)));
          }
        where
          room_for : ltb k (length totals / 7) ≡ true
          room_for = lt-ltb k _ (rw u.totals_sized more)

          sized : (b : Bool) → length (cond b (sets totals (7 * k) (seven t)) totals) ≡ length ns
          sized true = length-sets totals (7 * k) (seven t) ∙ u.totals_sized
          sized Bool.false = u.totals_sized

          entered : totals' ≡ sets totals₀ 0 (ledger (λ a. (on a).totals) (k + 1))
          entered =
              wrote
              ∙ cond_true (ltb k (length totals / 7)) room_for _ _
              ∙ (λ q. sets (u.totals_are q) (7 * k) (seven ((told ∙ ap (λ (z : Outcome). z.totals) is) q)))
              ∙ ledger_next (λ a. (on a).totals) totals₀ k
