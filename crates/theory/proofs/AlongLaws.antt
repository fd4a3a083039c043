-- What is written and summed along an order of the places. The order names each place once, so a sum along the turns is the sum over the places.
-- A store at the place whose turn it is adds that place to those that a rule has written and changes no other: a place reads as it was lent
-- until its turn, and after the last turn the list is the rule's.
use mathlib.Core.Path.{◌≡◌, sym, ap, ◌∙◌}
use mathlib.Core.List.{List}
use Prim.Native.Nat.{ℕ, ◌+◌, ◌≤◌, ◌<◌, zero-le}
use native.Mathlib.Nat.{le_antisymm}
use native.Mathlib.Omega.{arith}
use lib.Dec.{eqb, ltb}
use lib.ListN.{length, get_or, set, length-set}
use lib.Seq.{get_or-set_same, get_or-set_other, ext_get_or}
use borrow.Author.Tests.{lt-ltb, le-ltb, eqb-true, eqb-false}
use Rattle.theory.specs.Lists.{made, made_along}
use Rattle.theory.specs.Sums.{sum}
use Rattle.theory.specs.Ways.{UpslopeFirst}
use Rattle.theory.proofs.Cases.{by_cases, below_or_not, cond_true, cond_false}
use Rattle.theory.proofs.ListLaws.{made_length, made_at, made_cong, made_of}
use Rattle.theory.proofs.SumLaws.{sum_injection, sum_cover}

-- a made list with one place stored is made by any rule that has the new number there and agrees elsewhere
set_made : (n k x : ℕ) (f g : ℕ → ℕ) → k < n → x ≡ g k → ((i : ℕ) → i < n → (i ≡ k → ⊥) → f i ≡ g i) → set (made n f) k x ≡ made n g
set_made n k x f g h e same =
    ext_get_or 0 (set (made n f) k x) (made n g) (length-set (made n f) k x ∙ made_length n f ∙ sym (made_length n g))
    (λ i l. let inside : i < n = rw (length-set (made n f) k x, made_length n f) at l in
    rw (made_at n g 0 i inside)
    (by_cases (eqb i k)
    (λ q. rw (eqb-true i k q) (get_or-set_same (made n f) k x 0 (rw (made_length n f) h) ∙ e))
    (λ q. get_or-set_other (made n f) k i x 0 (eqb-false i k q) ∙ made_at n f 0 i inside ∙ same i inside (eqb-false i k q))))

module _ {n : ℕ} {next : ℕ → ℕ} (order : UpslopeFirst n next) where
  pub once : (s t : ℕ) → s < n → t < n → order.who s ≡ order.who t → s ≡ t
  once s t a b e = sym (order.turn_who s a) ∙ ap order.turn e ∙ order.turn_who t b

  pub sum_along : (f : ℕ → ℕ) → sum n (λ t. f (order.who t)) ≡ sum n f
  sum_along f =
      le_antisymm (sum_injection n n order.who f order.placed once)
      (sum_cover n n order.who f (λ i h. (order.turn i, order.turned i h, order.who_turn i h)))

  module _ (f : ℕ → ℕ) (before : List ℕ) where
    pub along_none : length before ≡ n → made_along n order.turn 0 f before ≡ before
    unfolding made_along
    along_none e =
        made_cong n _ (λ i. get_or before i 0) (λ i h. cond_false (ltb (order.turn i) 0) (le-ltb (order.turn i) 0 zero-le) _ _)
        ∙ ap (λ (k : ℕ). made k (λ i. get_or before i 0)) (sym e)
        ∙ made_of before 0

    module _ (t : ℕ) (now : List ℕ) (e : now ≡ made_along n order.turn t f before) where
      pub along_sized : length now ≡ n
      unfolding made_along
      along_sized = rw e (made_length n _)

      -- the place whose turn it is
      module _ (h : t < n) (place : ℕ) (whose : place ≡ order.who t) where
        due : order.turn place ≡ t
        due = ap order.turn whose ∙ order.turn_who t h

        inside : place < n
        inside = rw whose (order.placed t h)

        pub along_read : get_or now place 0 ≡ get_or before place 0
        unfolding made_along
        along_read =
            rw (e, made_at {A = ℕ} n _ 0 place inside)
            (cond_false (ltb (order.turn place) t) (le-ltb (order.turn place) t (omega (arith, due))) _ _)

        pub along_write : (x : ℕ) → x ≡ f place → set now place x ≡ made_along n order.turn (t + 1) f before
        unfolding made_along
        along_write x v =
            rw e
            (set_made n place x _ _ inside (v ∙ sym (cond_true (ltb (order.turn place) (t + 1)) (lt-ltb (order.turn place) (t + 1) (omega (arith, due))) _ _))
            (λ i l other. below_or_not (order.turn i) t
            (λ early. rw (lt-ltb (order.turn i) t early, lt-ltb (order.turn i) (t + 1) (omega arith)))
            (λ late. rw (le-ltb (order.turn i) t late, le-ltb (order.turn i) (t + 1) (after i l other late)))))
          where
            after : (i : ℕ) → i < n → (i ≡ place → ⊥) → t ≤ order.turn i → t + 1 ≤ order.turn i
            after i l other late =
                below_or_not t (order.turn i) (λ (later : t < order.turn i). omega arith)
                (λ now_due. absurd (other (sym (order.who_turn i l) ∙ ap order.who (le_antisymm now_due late) ∙ sym whose)))

      pub along_done : n ≤ t → now ≡ made n f
      unfolding made_along
      along_done last = e ∙ made_cong n _ f (λ i h. cond_true (ltb (order.turn i) t) (lt-ltb (order.turn i) t (omega (arith, order.turned i h))) _ _)
