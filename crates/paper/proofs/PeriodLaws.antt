-- A period: each day goes on from the one before it; a serial follows each other, so that no more days are accepted than there are serials; the cells' sums add
-- up to the grid's totals; and the account of all its days closes, since the account of each does.
use mathlib.Core.Path.{◌≡◌, refl, sym, ap, ◌∙◌}
use mathlib.Core.Bool.{true}
use mathlib.Core.List.{List, [], ◌∷◌, ◌++◌}
use Prim.Native.Nat.{ℕ, zero, suc, ◌+◌, ◌≤◌, zero-le}
use native.Mathlib.Nat.{le_trans, le_of_lt, lt-suc_self}
use native.Mathlib.Omega.{arith}
use lib.ListN.{get_or}
use borrow.Author.Tests.{eqb-true, leb-true}
use Rattle.theory.specs.Lists.{made}
use Rattle.theory.specs.Sums.{sum}
use Rattle.theory.proofs.Cases.{and_left}
use Rattle.theory.proofs.ListLaws.{made_at, made_snoc}
use Rattle.theory.proofs.SumLaws.{sum_cong, sum_swap}
use Rattle.paper.specs.Limits.{most_serial}
use Rattle.paper.specs.Setup.{Setup, cells}
use Rattle.paper.specs.State.{State, Day, Last, serial, day_fits, follows}
use Rattle.paper.specs.CellDay.{Figures}
use Rattle.paper.specs.Refusals.{accepted}
use Rattle.paper.specs.Day.{Results, Totals, totals_of, results_of, next_state, verdict_of, figures_of, outcome_as}
use Rattle.paper.specs.Run.{Standing, after_day, one_day, days, stored}
use Rattle.paper.specs.Period.{after, outcome_on, AllAccepted, summed, totalled}
use Rattle.paper.proofs.DayLaws.{SoundDay, sound_day, verdict_is, accepted_is}
use Rattle.paper.proofs.AccountLaws.{DayAccount, day_account}

days_snoc : (s : Setup) (run : Standing) (ds : List Day) (d : Day) → days s run (ds ++ (d ∷ [])) ≡ one_day s (days s run ds) d
unfolding days
days_snoc s run [] d = refl
days_snoc s run (e ∷ ds) d = days_snoc s (one_day s run e) ds d

module _ (s : Setup) (run : Standing) (day : ℕ → Day) where
  abbrev standing : ℕ → Standing
  standing = after s run day

  pub after_next : (k : ℕ) → standing (suc k) ≡ one_day s (standing k) (day k)
  unfolding after
  after_next k = ap (days s run) (made_snoc k day) ∙ days_snoc s run (made k day) (day k)

  -- the state and the results are those that the day left
  pub state_next : (k : ℕ) → (standing (suc k)).state ≡ (outcome_on s run day k).state
  unfolding outcome_on one_day after_day
  state_next k = ap (λ (x : Standing). x.state) (after_next k)

  pub results_next : (k : ℕ) → (standing (suc k)).results ≡ (outcome_on s run day k).results
  unfolding outcome_on one_day after_day
  results_next k = ap (λ (x : Standing). x.results) (after_next k)

  passed : (j : ℕ) → (outcome_on s run day j).verdict ≡ accepted → verdict_of s (standing j).state (standing j).results (day j) ≡ accepted
  unfolding outcome_on
  passed j e = sym (verdict_is s (standing j).state (standing j).results (day j)) ∙ e

  sound : (j : ℕ) → (outcome_on s run day j).verdict ≡ accepted → SoundDay s (standing j).state (standing j).results (day j)
  sound j e = sound_day s (standing j).state (standing j).results (day j) (passed j e)

  accepted_outcome : (j : ℕ) → (outcome_on s run day j).verdict ≡ accepted
      → outcome_on s run day j ≡ outcome_as s (standing j).state (standing j).results (day j) accepted
  unfolding outcome_on
  accepted_outcome j e = accepted_is s (standing j).state (standing j).results (day j) (passed j e)

  last_next : (j : ℕ) → (outcome_on s run day j).verdict ≡ accepted → (standing (suc j)).state.past.last ≡ serial (day j).serial
  unfolding outcome_as next_state
  last_next j e = ap (λ (x : State). x.past.last) (state_next j) ∙ (rw (accepted_outcome j e) refl)

  following : (l : Last) (m n : ℕ) → l ≡ serial m → follows l n ≡ true → n ≡ m + 1
  unfolding follows
  following l m n e f = eqb-true n (m + 1) (rw e at f)

  serial_reaches : (k : ℕ) → AllAccepted s run day (suc k) → k ≤ (day k).serial
  serial_reaches zero ok = zero-le
  serial_reaches (suc k) ok =
      let before : k ≤ (day k).serial = serial_reaches k (λ j h. ok j (le_trans h (le_of_lt (lt-suc_self (suc k))))) in
      let next : (day (suc k)).serial ≡ (day k).serial + 1
      = following (standing (suc k)).state.past.last (day k).serial (day (suc k)).serial (last_next k (ok k (le_of_lt (lt-suc_self (suc k)))))
      (sound (suc k) (ok (suc k) (lt-suc_self (suc k)))).serial in
      omega (arith, before, next)

  -- no more days are accepted than there are serials
  pub few_days : (k : ℕ) → AllAccepted s run day k → k ≤ most_serial + 1
  unfolding day_fits
  few_days zero ok = zero-le
  few_days (suc k) ok =
      let fits : day_fits (day k) ≡ true = (sound k (ok k (lt-suc_self k))).day in
      let most : (day k).serial ≤ most_serial = leb-true _ _ (search and_left depth 12) in
      omega (arith, most, serial_reaches k ok)

  -- what a figure of the cells adds up to is the total of the days
  module _ (figure : Results → List ℕ) (part : Totals → ℕ) (of : Figures → ℕ)
      (listed : (n : ℕ) (f : ℕ → Figures) → figure (results_of n f) ≡ made n (λ i. of (f i)))
      (added : (gross : ℕ) (f : ℕ → Figures) → part (totals_of s gross f) ≡ sum (cells s) (λ i. of (f i))) where
    on_a_day : (j : ℕ) → (outcome_on s run day j).verdict ≡ accepted
        → sum (cells s) (λ i. get_or (figure (outcome_on s run day j).results) i 0) ≡ part (outcome_on s run day j).totals
    unfolding outcome_as
    on_a_day j e =
        let f : ℕ → Figures = figures_of s (standing j).state (day j) in
        rw (accepted_outcome j e, listed (cells s) f, added (day j).gross f) (sum_cong (cells s) _ _ (λ i h. made_at (cells s) (λ i. of (f i)) 0 i h))

    adds_up : (k : ℕ) → AllAccepted s run day k → sum (cells s) (summed s run day figure k) ≡ totalled s run day part k
    unfolding summed totalled
    adds_up k ok =
        sum_swap (cells s) k (λ i j. get_or (figure (outcome_on s run day j).results) i 0) ∙ sum_cong k _ _ (λ j h. on_a_day j (ok j h))

  pub intercepted_adds_up : (k : ℕ) → AllAccepted s run day k → sum (cells s) (summed s run day (λ r. r.intercepted) k) ≡ totalled s run day (λ t. t.intercepted) k
  unfolding results_of totals_of
  intercepted_adds_up = adds_up (λ r. r.intercepted) (λ t. t.intercepted) (λ f. f.intercepted) (λ n f. refl) (λ g f. refl)

  pub evapotranspired_adds_up : (k : ℕ) → AllAccepted s run day k → sum (cells s) (summed s run day (λ r. r.evapotranspired) k) ≡ totalled s run day (λ t. t.evapotranspired) k
  unfolding results_of totals_of
  evapotranspired_adds_up = adds_up (λ r. r.evapotranspired) (λ t. t.evapotranspired) (λ f. f.evapotranspired) (λ n f. refl) (λ g f. refl)

  pub recharged_adds_up : (k : ℕ) → AllAccepted s run day k → sum (cells s) (summed s run day (λ r. r.recharged) k) ≡ totalled s run day (λ t. t.recharged) k
  unfolding results_of totals_of
  recharged_adds_up = adds_up (λ r. r.recharged) (λ t. t.recharged) (λ f. f.recharged) (λ n f. refl) (λ g f. refl)

  account_on : (j : ℕ) → (outcome_on s run day j).verdict ≡ accepted → DayAccount s (standing j).state (outcome_on s run day j)
  unfolding outcome_on
  account_on j e = day_account s (standing j).state (standing j).results (day j) e

  -- the account of all the days
  pub period_account : (k : ℕ) → AllAccepted s run day k → let total : (Totals → ℕ) → ℕ = λ part. totalled s run day part k in
      stored s run.state + total (λ t. t.gross)
      ≡ total (λ t. t.intercepted)
      + total (λ t. t.evapotranspired)
      + total (λ t. t.recharged)
      + total (λ t. t.rejected)
      + total (λ t. t.gone)
      + stored s (standing k).state
  unfolding totalled sum
  period_account zero ok = unfold after made days in omega arith
  period_account (suc k) ok =
      let before = period_account k (λ j h. ok j (le_trans h (le_of_lt (lt-suc_self k)))) in
      let today : DayAccount s (standing k).state (outcome_on s run day k) = account_on k (ok k (lt-suc_self k)) in
      rw (state_next k) (omega (arith, before, today.account, today.stored_is))
