-- A list of the cells at the front of an array: filled by its rule from the front on, as far as the array goes, and taken back from there. And a place
-- past the numbers reads as their end does.
use mathlib.Core.Path.{◌≡◌, refl, sym, ap, ◌∙◌}
use mathlib.Core.List.{List, ◌∷◌}
use Prim.Native.Nat.{ℕ, zero, suc, ◌+◌, ◌-◌, ◌≤◌, min}
use native.Mathlib.Nat.{not-suc-le-zero, le_of_suc-le-suc}
use native.Mathlib.Numerals.{unary_clauses}
use native.Mathlib.Omega.{arith}
use lib.ListN.{length, get_or, take, drop, replicate, length-append, length-take, length-replicate, get_or-eq_default}
use lib.Seq.{take_all, take_at}
use Rattle.theory.specs.Lists.{made, made_over}
use Rattle.theory.proofs.Cases.{below_or_not}
use Rattle.theory.proofs.ListLaws.{made_length}
use Rattle.paper.specs.Limits.{most_cells}
use Rattle.text.specs.Laying.{held}

take_front : (m n : ℕ) (f : ℕ → ℕ) → m ≤ n → take m (made n f) ≡ made m f
unfolding made
take_front zero n f h = refl
take_front (suc m) zero f h = absurd (not-suc-le-zero h)
take_front (suc m) (suc n) f h = ap (◌∷◌ (f 0)) (take_front m n (λ i. f (suc i)) (le_of_suc-le-suc h))

drop_same : (k m : ℕ) → drop k (replicate {A = ℕ} m 0) ≡ replicate (m - k) 0
drop_same zero m = simp unary_clauses refl
drop_same (suc k) zero = let none : 0 - suc k ≡ 0 = omega arith in rw none refl
drop_same (suc k) (suc m) = simp unary_clauses (drop_same k m)

pub all_held : (f : ℕ → ℕ) (n i : ℕ) (now : List ℕ) → now ≡ made_over i f (replicate most_cells 0) → i ≡ min n most_cells → now ≡ held (made n f)
unfolding held made_over
all_held f n i now e h =
    e
    ∙ rw (drop_same i most_cells, made_length n f)
    (below_or_not n most_cells
    (λ few. let same : i ≡ n = omega arith in rw (same, take_all most_cells (made n f) (rw (made_length n f) (omega arith))) refl)
    (λ many.
    let same : i ≡ most_cells = omega arith in
    let none : most_cells - n ≡ most_cells - i = omega arith in
    rw (none, same, take_front most_cells n f many) refl))

module _ (l : List ℕ) where
  pub held_length : length (held l) ≡ most_cells
  unfolding held
  held_length =
      length-append (take most_cells l) (replicate (most_cells - length l) 0)
      ∙ omega (arith, length-take most_cells l, length-replicate {A = ℕ} (most_cells - length l) 0)

  pub held_front : (n : ℕ) → n ≡ length l → n ≤ most_cells → take n (held l) ≡ l
  unfolding held
  held_front n e h =
      rw (take_all most_cells l (omega arith)) (take_at l (replicate (most_cells - length l) 0) n (sym e))

  pub read_on : (a i : ℕ) → get_or l (min a (length l) + i) 0 ≡ get_or l (a + i) 0
  read_on a i =
      below_or_not a (length l) (λ h. ap (λ (k : ℕ). get_or l (k + i) 0) (omega arith))
      (λ h. get_or-eq_default l 0 (omega arith) ∙ sym (get_or-eq_default l 0 (omega arith)))
