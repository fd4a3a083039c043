-- The paper's test of several lengths, one after another: it goes on from each that passes, and stops at the first that does not.
use Rattle.std.proofs.Common.{◌≡◌, refl, ℕ, ◌+◌, ◌≤◌, ◌<◌, List, true, false, length, get_or, drop, drop-cons, add-one}
use lib.ListN.{drop_of_length-le}
use borrow.Author.Tests.{eq-eqb, ne_eqb}
use Rattle.paper.specs.Refusals.{one_each}

module _ (n : ℕ) (lengths : List ℕ) (i : ℕ) where
  pub each_next : i < length lengths → get_or lengths i 0 ≡ n → one_each n (drop i lengths) ≡ one_each n (drop (i + 1) lengths)
  unfolding one_each
  each_next h e = rw (drop-cons lengths i 0 h, eq-eqb (get_or lengths i 0) n e, add-one i) refl

  pub each_stop : i < length lengths → (get_or lengths i 0 ≡ n → ⊥) → one_each n (drop i lengths) ≡ false
  unfolding one_each
  each_stop h e = rw (drop-cons lengths i 0 h, ne_eqb (get_or lengths i 0) n e) refl

  pub each_end : length lengths ≤ i → one_each n (drop i lengths) ≡ true
  unfolding one_each
  each_end h = rw (drop_of_length-le lengths {i = i} h) refl
