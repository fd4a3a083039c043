-- Sums along a queue that names each place at most once. With one more place, not in the queue, the sum is still at most the sum over all
-- places: without that place all sums are the same or less. And where the queue has each place that adds anything, it is at least that sum:
-- written as the sum that picks each place of the queue, and swapped, it has each such place at least once.
use mathlib.Core.Path.{◌≡◌, refl, sym, ◌∙◌}
use mathlib.Core.Bool.{Bool, true, false, not}
use mathlib.Core.Logic.{⊎_elim}
use Prim.Native.Nat.{ℕ, ◌+◌, ◌≤◌, ◌<◌, zero-le}
use native.Mathlib.Nat.{eq-zero-or-pos}
use native.Mathlib.Omega.{arith}
use lib.Dec.{eqb}
use borrow.Author.Tests.{eq-eqb, ne_eqb}
use Rattle.theory.specs.Sums.{sum, given}
use Rattle.theory.proofs.SumLaws.{sum_cong, sum_le, sum_add, sum_swap, sum_part, sum_pick, sum_injection}

split : (b : Bool) (x : ℕ) → given (not b) x + given b x ≡ x
unfolding given
split true x = omega arith
split false x = omega arith

module _ (m n : ℕ) (o f : ℕ → ℕ) (placed : (t : ℕ) → t < m → o t < n) where
  pub sum_extend : ((s t : ℕ) → s < m → t < m → o s ≡ o t → s ≡ t) → (j : ℕ) → j < n → ((t : ℕ) → t < m → o t ≡ j → ⊥)
      → sum m (λ t. f (o t)) + f j ≤ sum n f
  sum_extend once j h new =
      let others : sum m (λ t. f (o t)) ≡ sum m (λ t. given (not (eqb j (o t))) (f (o t)))
      = sum_cong m _ _ (λ t l. rw (ne_eqb j (o t) (λ e. new t l (sym e))) (unfold given in refl)) in
      let whole : sum n (λ i. given (not (eqb j i)) (f i)) + sum n (λ i. given (eqb j i) (f i)) ≡ sum n f
      = sym (sum_add n _ _) ∙ sum_cong n _ _ (λ i l. split (eqb j i) (f i)) in
      omega (arith, sum_injection m n o (λ i. given (not (eqb j i)) (f i)) placed once, sum_pick n f j h)

  pub sum_support : ((j : ℕ) → j < n → 0 < f j → (t : ℕ) × (t < m) × (o t ≡ j)) → sum n f ≤ sum m (λ t. f (o t))
  unfolding given
  sum_support covered =
      rw (
        sum_cong m (λ t. f (o t)) (λ t. sum n (λ i. given (eqb (o t) i) (f i))) (λ t h. sym (sum_pick n f (o t) (placed t h))),
        sum_swap m n (λ t i. given (eqb (o t) i) (f i)),
      )
      (sum_le n f (λ i. sum m (λ t. given (eqb (o t) i) (f i))) (λ i h. ⊎_elim (λ e. rw e zero-le) (λ p. reached i (covered i h p))
      (eq-zero-or-pos (f i))))
    where
      reached : (i : ℕ) → (t : ℕ) × (t < m) × (o t ≡ i) → f i ≤ sum m (λ t. given (eqb (o t) i) (f i))
      reached i c = rw (eq-eqb (o c.0) i c.2) at (sum_part m (λ t. given (eqb (o t) i) (f i)) c.0 c.1)
