-- Results that are lent from the fronts of longer arrays: before the first day they are none, and what a call leaves in a front is there for the next.
use mathlib.Core.Path.{◌≡◌, refl, sym, ap, ◌∙◌}
use mathlib.Core.List.{List, ◌∷◌, ◌++◌}
use Prim.Native.Nat.{ℕ, zero, suc, ◌≤◌}
use native.Mathlib.Nat.{not-suc-le-zero, le_of_suc-le-suc}
use lib.ListN.{length, take, drop, replicate, length-replicate}
use lib.Seq.{length-take-le, length_front, take_at}
use Rattle.paper.specs.Day.{Results, no_results}
use Rattle.records.specs.Answers.{results_as}

-- a part of an array of zeros is zeros, and has its own length
pub zeros : (n m : ℕ) → n ≤ m → take n (replicate {A = ℕ} m 0) ≡ replicate n 0
zeros zero m h = refl
zeros (suc n) zero h = absurd (not-suc-le-zero h)
zeros (suc n) (suc m) h = ap (◌∷◌ 0) (zeros n m (le_of_suc-le-suc h))

pub part_length : (n m : ℕ) → n ≤ m → n ≡ length (take n (replicate {A = ℕ} m 0))
part_length n m h = sym (ap length (zeros n m h) ∙ length-replicate {A = ℕ} n 0)

-- the lent parts of the five arrays of results
abbrev pub parts : ℕ → List ℕ → List ℕ → List ℕ → List ℕ → List ℕ → Results
parts n i o e r j = results_as (take n i) (take n o) (take n e) (take n r) (take n j)

-- each array has an entry for every cell
pub record Room (n : ℕ) (i o e r j : List ℕ) : Type 0 where
  pub intercepted : n ≤ length i
  pub outflow : n ≤ length o
  pub evapotranspired : n ≤ length e
  pub recharged : n ≤ length r
  pub rejected : n ≤ length j

-- before the first day
pub no_results_lem :
    (n m : ℕ) → n ≤ m → (let l = replicate {A = ℕ} m 0 in parts n l l l l l ≡ no_results n)
unfolding no_results
no_results_lem n m h = ap (λ (l : List ℕ). results_as l l l l l) (zeros n m h)

pub room : (n m : ℕ) → n ≤ m → (let l = replicate {A = ℕ} m 0 in Room n l l l l l)
room n m h =
    let long : n ≤ length (replicate {A = ℕ} m 0) = rw length-replicate h in
    record { intercepted = long; outflow = long; evapotranspired = long; recharged = long; rejected = long }

-- a part that a call wrote is the front of its array, which is as long as before
module _ (n : ℕ) where
  abbrev pub after : List ℕ → List ℕ → List ℕ
  after l part = part ++ drop n l

  front : (l part : List ℕ) → n ≤ length l → length part ≡ length (take n l) → take n (after l part) ≡ part
  front l part h k = take_at part (drop n l) n (k ∙ length-take-le n l h)

  long : (l part : List ℕ) → n ≤ length l → length part ≡ length (take n l) → n ≤ length (after l part)
  long l part h k = rw (length_front l part n k) h

  pub left :
      (i o e r j i' o' e' r' j' : List ℕ) → Room n i o e r j → length i' ≡ length (take n i) → length o' ≡ length (take n o)
      → length e' ≡ length (take n e) → length r' ≡ length (take n r) → length j' ≡ length (take n j)
      → Room n (after i i') (after o o') (after e e') (after r r') (after j j')
      × (parts n (after i i') (after o o') (after e e') (after r r') (after j j') ≡ results_as i' o' e' r' j')
  left i o e r j i' o' e' r' j' h a b c d f = (
    record {
      intercepted = long i i' h.intercepted a;
      outflow = long o o' h.outflow b;
      evapotranspired = long e e' h.evapotranspired c;
      recharged = long r r' h.recharged d;
      rejected = long j j' h.rejected f;
    },
    rw (front i i' h.intercepted a, front o o' h.outflow b, front e e' h.evapotranspired c, front r r' h.recharged d, front j j' h.rejected f) refl,
  )
