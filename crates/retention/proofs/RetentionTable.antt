-- The kept entries are rule 8's F at every sixteenth knot: the list built from the step rule, sixteen steps from each to the next, which the check
-- computes and compares with the constants. The ones between follow by the step rule from what stands one row before them, and F(k) stands at k's place.
use mathlib.Core.List.{List, [], ◌∷◌}
use mathlib.Core.Path.{◌≡◌, refl, ap, sym, ◌∙◌}
use Prim.Native.Nat.{ℕ, zero, suc, ◌+◌, ◌-◌, ◌*◌, ◌/◌, ◌%◌, ◌≤◌, ◌<◌, min}
use native.Mathlib.Omega.{arith}
use native.Mathlib.Decide.{dec_lt}
use lib.ListN.{get_or, set, replicate, length-replicate}
use borrow.Author.Tests.{lt-ltb, le-ltb}
use Rattle.theory.specs.Lists.{made, made_over}
use Rattle.theory.proofs.ListLaws.{made_at, over_none, over_at, over_all, wrote}
use Rattle.paper.specs.Retention.{F}
use Rattle.paper.proofs.RetentionLaws.{F_start, F_next}
use Rattle.retention.specs.Retention.{kept, knot_at, place_of, table}

-- x after n steps, each less its 256th part rounded down
unfoldable pub stepped : ℕ → ℕ → ℕ
stepped zero x = x
stepped (suc n) x = stepped n (x - x / 256)

-- n entries from x on, each next the one before after sixteen steps
unfoldable pub built : ℕ → ℕ → List ℕ
built zero x = []
built (suc n) x = x ∷ built n (stepped 16 x)

F_steps : (n k : ℕ) → stepped n (F k) ≡ F (k + n)
unfolding stepped
F_steps zero k = ap (λ (i : ℕ). F i) (omega arith)
F_steps (suc n) k = ap (λ (x : ℕ). stepped n x) (sym (F_next k)) ∙ F_steps n (suc k) ∙ ap (λ (i : ℕ). F i) (omega arith)

from : (n : ℕ) (g : ℕ → ℕ) → ((j : ℕ) → g (suc j) ≡ stepped 16 (g j)) → built n (g 0) ≡ made n g
unfolding built made
from zero g step = refl
from (suc n) g step =
    ap (λ (l : List ℕ). g 0 ∷ l) (ap (λ (x : ℕ). built n x) (sym (step 0)) ∙ from n (λ j. g (suc j)) (λ j. step (suc j)))

pub kept_built : built 129 1048576 ≡ kept
unfolding kept
kept_built =
    ap (λ (x : ℕ). built 129 x) (sym F_start)
    ∙ from 129 (λ j. F (16 * j)) (λ j. ap (λ (i : ℕ). F i) (omega arith) ∙ sym (F_steps 16 (16 * j)))

kept_at : (j : ℕ) → j < 129 → get_or kept j 0 ≡ F (16 * j)
unfolding kept
kept_at j h = made_at 129 (λ i. F (16 * i)) 0 j h

inside : (i : ℕ) → i < 2048 → knot_at i ≡ 16 * (i % 128) + i / 128
unfolding knot_at
inside i h = rw (lt-ltb _ _ h)

-- the first row is the kept entries, each further row one step after the row before, and the last place the last kept entry
first_row : (i : ℕ) → i < 128 → get_or kept i 0 ≡ F (knot_at i)
first_row i h = kept_at i (omega arith) ∙ ap (λ (k : ℕ). F k) (sym (inside i (omega arith) ∙ omega arith))

next_row : (i : ℕ) → 128 ≤ i → i < 2048 → F (knot_at (i - 128)) - F (knot_at (i - 128)) / 256 ≡ F (knot_at i)
next_row i low h =
    let after : suc (knot_at (i - 128)) ≡ knot_at i = rw (inside i h, inside (i - 128) (omega arith)) (omega arith) in
    sym (F_next (knot_at (i - 128))) ∙ ap (λ (k : ℕ). F k) after

knot_last : knot_at 2048 ≡ 2048
unfolding knot_at
knot_last = refl

last_place : get_or kept 128 0 ≡ F (knot_at 2048)
last_place = kept_at 128 (omega arith) ∙ ap (λ (k : ℕ). F k) (sym knot_last)

pub place_below : (k : ℕ) → k < 2048 → place_of k ≡ k % 16 * 128 + k / 16
unfolding place_of
place_below k h = rw (lt-ltb _ _ h)

pub place_past : (k : ℕ) → 2048 ≤ k → place_of k ≡ 2048
unfolding place_of
place_past k h = rw (le-ltb _ _ h)

-- F(k) stands at k's place, and from 2,048 on F(2,048)
pub table_at : (k : ℕ) → get_or table (place_of k) 0 ≡ F (min k 2048)
unfolding table
table_at k = made_at 2049 (λ i. F (knot_at i)) 0 (place_of k) there.0 ∙ ap (λ (i : ℕ). F i) there.1
  where
    go : Dec (k < 2048) → (place_of k < 2049) × (knot_at (place_of k) ≡ min k 2048)
    go (yes low) = rw (place_below k low, inside (k % 16 * 128 + k / 16) (omega arith)) (omega arith)
    go (no past) = rw (place_past k (omega arith), knot_last) (omega arith)

    there : (place_of k < 2049) × (knot_at (place_of k) ≡ min k 2048)
    there = go (dec_lt k 2048)

-- the working array before place i is written, and with one more place
pub record Filled (i : ℕ) (f : List ℕ) : Type 0 where
  pub far : i ≤ 2048
  pub so_far : f ≡ made_over i (λ k. F (knot_at k)) (replicate 2049 0)

pub filled_none : Filled 0 (replicate 2049 0)
filled_none = record { far = omega arith; so_far = sym (over_none _ _) }

filled_on : (i x : ℕ) (f : List ℕ) → i < 2048 → Filled i f → x ≡ F (knot_at i) → Filled (i + 1) (set f i x)
filled_on i x f h before e =
    record {
      far = omega arith;
      so_far = wrote (λ k. F (knot_at k)) (replicate 2049 0) f i x before.so_far e (rw (length-replicate {A = ℕ} 2049 0) (omega arith));
    }

pub filled_kept : (i : ℕ) (l f : List ℕ) → i < 128 → l ≡ kept → Filled i f → Filled (i + 1) (set f i (get_or l i 0))
filled_kept i l f h e before = filled_on i _ f (omega arith) before (rw e (first_row i h))

pub filled_next : (i x : ℕ) (f : List ℕ) → 128 ≤ i → i < 2048 → Filled i f → x ≡ get_or f (i - 128) 0 - get_or f (i - 128) 0 / 256 → Filled (i + 1) (set f i x)
filled_next i x f low h before e =
    let read : get_or f (i - 128) 0 ≡ F (knot_at (i - 128)) = rw before.so_far (over_at i (λ k. F (knot_at k)) _ 0 (i - 128) (omega arith)) in
    filled_on i x f h before (e ∙ rw read (next_row i low h))

pub filled_whole : (l f : List ℕ) → l ≡ kept → Filled 2048 f → set f 2048 (get_or l 128 0) ≡ table
unfolding table
filled_whole l f e before =
    wrote (λ k. F (knot_at k)) (replicate 2049 0) f 2048 _ before.so_far (rw e last_place) (rw (length-replicate {A = ℕ} 2049 0) (omega arith))
    ∙ over_all 2049 (λ k. F (knot_at k)) (replicate 2049 0) (length-replicate {A = ℕ} 2049 0)
