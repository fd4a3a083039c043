-- What `lowest` finds is the one place that passes the test with none below it that does, and it finds nothing only where no place passes. `Look`
-- says this of an answer; the search keeps it from each n to the next, and every law reads it.
use mathlib.Core.Path.{◌≡◌, refl, sym, ap, ◌∙◌, subst}
use mathlib.Core.Bool.{Bool, true, false, true≢false, false≢true}
use Prim.Native.Nat.{ℕ, zero, suc, ◌<◌}
use native.Mathlib.Nat.{lt-suc_self, le_step, le_antisymm}
use native.Mathlib.Numerals.{add-one}
use native.Mathlib.Omega.{by_contra}
use borrow.Author.Count.{below_none, below_more}
use Rattle.theory.specs.Lowest.{Found, at, nowhere, or_at, lowest, is_found, some}

data Look (n : ℕ) (test : ℕ → Bool) : Found → Type 0 where
  here : {i : ℕ} → i < n → test i ≡ true → ((j : ℕ) → j < i → test j ≡ false) → Look n test (at i)
  none : ((j : ℕ) → j < n → test j ≡ false) → Look n test nowhere

one_more_lem : (n : ℕ) (test : ℕ → Bool) {r : Found} (b : Bool) → Look n test r → test n ≡ b → Look (suc n) test (or_at r n b)
unfolding or_at
one_more_lem n test b (here h e below) q = here (le_step h) e below
one_more_lem n test true (none all) q = here (lt-suc_self n) q all
one_more_lem n test false (none all) q = none (λ j h. below_more (λ i. test i ≡ false) n all q j (rw add-one h))

look : (n : ℕ) (test : ℕ → Bool) → Look n test (lowest n test)
unfolding lowest
look zero test = none (below_none (λ i. test i ≡ false))
look (suc n) test = one_more_lem n test (test n) (look n test) refl

module _ (n : ℕ) (test : ℕ → Bool) where
  pub lowest_at : {i : ℕ} → lowest n test ≡ at i → (i < n) × (test i ≡ true) × ((j : ℕ) → j < i → test j ≡ false)
  lowest_at {i} e = go (subst (Look n test) e (look n test))
    where
      go : Look n test (at i) → (i < n) × (test i ≡ true) × ((j : ℕ) → j < i → test j ≡ false)
      go (here h t below) = (h, t, below)

  pub at_lowest : (i : ℕ) → i < n → test i ≡ true → ((j : ℕ) → j < i → test j ≡ false) → lowest n test ≡ at i
  at_lowest i h t below = go (look n test)
    where
      go : {r : Found} → Look n test r → r ≡ at i
      go (here {i = k} l u lower) =
          ap at (le_antisymm (by_contra k i (λ w. true≢false (sym t ∙ lower i w))) (by_contra i k (λ w. true≢false (sym u ∙ below k w))))
      go (none all) = absurd (true≢false (sym t ∙ all i h))

  pub lowest_none : lowest n test ≡ nowhere → (j : ℕ) → j < n → test j ≡ false
  lowest_none e = go (subst (Look n test) e (look n test))
    where
      go : Look n test nowhere → (j : ℕ) → j < n → test j ≡ false
      go (none all) = all

  pub none_lowest : ((j : ℕ) → j < n → test j ≡ false) → lowest n test ≡ nowhere
  none_lowest all = go (look n test)
    where
      go : {r : Found} → Look n test r → r ≡ nowhere
      go (here {i = k} h t below) = absurd (true≢false (sym t ∙ all k h))
      go (none every) = refl

  pub some_true : some n test ≡ true → (i : ℕ) × (i < n) × (test i ≡ true)
  unfolding some is_found
  some_true = go (look n test)
    where
      go : {r : Found} → Look n test r → is_found r ≡ true → (i : ℕ) × (i < n) × (test i ≡ true)
      go (here {i = k} h t below) e = (k, h, t)
      go (none all) e = absurd (false≢true e)

  pub true_some : (i : ℕ) → i < n → test i ≡ true → some n test ≡ true
  unfolding some is_found
  true_some i h t = go (look n test)
    where
      go : {r : Found} → Look n test r → is_found r ≡ true
      go (here l u below) = refl
      go (none all) = absurd (true≢false (sym t ∙ all i h))

  pub some_false : some n test ≡ false → (j : ℕ) → j < n → test j ≡ false
  unfolding some is_found
  some_false = go (look n test)
    where
      go : {r : Found} → Look n test r → is_found r ≡ false → (j : ℕ) → j < n → test j ≡ false
      go (here h t below) e = absurd (true≢false e)
      go (none all) e = all

  pub false_some : ((j : ℕ) → j < n → test j ≡ false) → some n test ≡ false
  unfolding some is_found
  false_some all = ap is_found (none_lowest all)

pub lowest_cong : (n : ℕ) (t u : ℕ → Bool) → ((i : ℕ) → i < n → t i ≡ u i) → lowest n t ≡ lowest n u
unfolding lowest
lowest_cong zero t u e = refl
lowest_cong (suc n) t u e = λ k. or_at (lowest_cong n t u (λ i h. e i (le_step h)) k) n (e n (lt-suc_self n) k)
