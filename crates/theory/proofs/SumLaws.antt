-- Sums over the places below n: how they compare, add up, swap, and pick one place out. A sum along o is, with each f (o t) written as the sum
-- that picks place o t, a double sum; swapped, it has at each place i as many f i as there are t that o takes to i: at most one where o is
-- injective, at least one where o covers.
use mathlib.Core.Path.{◌≡◌, refl, sym, ap, ◌∙◌}
use mathlib.Core.Bool.{Bool, true, false}
use mathlib.Core.Logic.{⊎_elim}
use Prim.Native.Nat.{ℕ, zero, suc, ◌+◌, ◌*◌, ◌≤◌, ◌<◌, zero-le}
use native.Mathlib.Nat.{not-suc-le-zero, le_of_suc-le-suc, lt-suc_self, le_step, le_refl, le_of_eq, le_trans, eq-or-lt_of_le, mul-zero, zero-mul}
use native.Mathlib.Decide.{dec_lt}
use native.Mathlib.Omega.{arith}
use lib.Dec.{eqb}
use borrow.Author.Tests.{eqb-true, eq-eqb, ne_eqb}
use Rattle.theory.specs.Sums.{sum, given}

pub sum_cong : (n : ℕ) (f g : ℕ → ℕ) → ((i : ℕ) → i < n → f i ≡ g i) → sum n f ≡ sum n g
unfolding sum
sum_cong zero f g e = refl
sum_cong (suc n) f g e = λ k. sum_cong n f g (λ i h. e i (le_step h)) k + e n (lt-suc_self n) k

pub sum_le : (n : ℕ) (f g : ℕ → ℕ) → ((i : ℕ) → i < n → f i ≤ g i) → sum n f ≤ sum n g
unfolding sum
sum_le zero f g e = zero-le
sum_le (suc n) f g e = omega (arith, sum_le n f g (λ i h. e i (le_step h)), e n (lt-suc_self n))

pub sum_add : (n : ℕ) (f g : ℕ → ℕ) → sum n (λ i. f i + g i) ≡ sum n f + sum n g
unfolding sum
sum_add zero f g = omega arith
sum_add (suc n) f g = omega (arith, sum_add n f g)

pub sum_same : (n c : ℕ) → sum n (λ i. c) ≡ n * c
unfolding sum
sum_same zero c = sym (zero-mul c)
sum_same (suc n) c = omega (arith, sum_same n c)

pub sum_none : (n : ℕ) → sum n (λ i. 0) ≡ 0
sum_none n = sum_same n 0 ∙ mul-zero n

pub sum_most : (n : ℕ) (f : ℕ → ℕ) (c : ℕ) → ((i : ℕ) → i < n → f i ≤ c) → sum n f ≤ n * c
sum_most n f c h = rw (← sum_same n c) (sum_le n f (λ i. c) h)

pub sum_swap : (n m : ℕ) (f : ℕ → ℕ → ℕ) → sum n (λ i. sum m (λ j. f i j)) ≡ sum m (λ j. sum n (λ i. f i j))
unfolding sum
sum_swap zero m f = sym (sum_none m)
sum_swap (suc n) m f = ap (λ (s : ℕ). s + sum m (f n)) (sum_swap n m f) ∙ sym (sum_add m (λ j. sum n (λ i. f i j)) (f n))

pub sum_part : (n : ℕ) (f : ℕ → ℕ) (k : ℕ) → k < n → f k ≤ sum n f
unfolding sum
sum_part zero f k h = absurd (not-suc-le-zero h)
sum_part (suc n) f k h =
    ⊎_elim (λ e. rw e (omega arith)) (λ l. omega (arith, sum_part n f k l)) (eq-or-lt_of_le (le_of_suc-le-suc h))

pub given_sum : (b : Bool) (n : ℕ) (f : ℕ → ℕ) → sum n (λ i. given b (f i)) ≡ given b (sum n f)
unfolding given
given_sum true n f = refl
given_sum false n f = sum_none n

pub given_add : (b : Bool) (x y : ℕ) → given b (x + y) ≡ given b x + given b y
unfolding given
given_add true x y = refl
given_add false x y = refl

pub given_le : (b : Bool) {x y : ℕ} → x ≤ y → given b x ≤ given b y
unfolding given
given_le true h = h
given_le false h = zero-le

pub given_most : (b : Bool) (x : ℕ) → given b x ≤ x
unfolding given
given_most true x = le_refl x
given_most false x = zero-le

-- where no test passes there is nothing to add
sum_off : (n : ℕ) (p : ℕ → Bool) (f : ℕ → ℕ) → ((i : ℕ) → i < n → p i ≡ true → ⊥) → sum n (λ i. given (p i) (f i)) ≡ 0
unfolding given
sum_off n p f no_one = sum_cong n (λ i. given (p i) (f i)) (λ i. 0) (λ i h. off (p i) (f i) (no_one i h)) ∙ sum_none n
  where
    off : (b : Bool) (x : ℕ) → (b ≡ true → ⊥) → given b x ≡ 0
    off true x h = absurd (h refl)
    off false x h = refl

pub sum_unpicked : (n : ℕ) (f : ℕ → ℕ) (k : ℕ) → n ≤ k → sum n (λ i. given (eqb k i) (f i)) ≡ 0
sum_unpicked n f k h = sum_off n (eqb k) f (λ i l e. omega (arith, eqb-true k i e))

pub sum_pick : (n : ℕ) (f : ℕ → ℕ) (k : ℕ) → k < n → sum n (λ i. given (eqb k i) (f i)) ≡ f k
unfolding sum given
sum_pick zero f k h = absurd (not-suc-le-zero h)
sum_pick (suc n) f k h =
    ⊎_elim
    (λ e. rw (sum_unpicked n f k (le_of_eq (sym e)), eq-eqb k n e) (rw e (omega arith)))
    (λ l. rw (sum_pick n f k l, ne_eqb k n (λ e. omega arith)) (omega arith))
    (eq-or-lt_of_le (le_of_suc-le-suc h))

-- a test that passes at most once counts x at most once
at_most_once : (m : ℕ) (p : ℕ → Bool) (x : ℕ) → ((s t : ℕ) → s < m → t < m → p s ≡ true → p t ≡ true → s ≡ t)
    → sum m (λ t. given (p t) x) ≤ x
unfolding sum given
at_most_once zero p x one = zero-le
at_most_once (suc m) p x one = last (p m) refl (at_most_once m p x (λ s t a b. one s t (le_step a) (le_step b)))
  where
    last : (b : Bool) → p m ≡ b → sum m (λ t. given (p t) x) ≤ x → sum m (λ t. given (p t) x) + given b x ≤ x
    last true e before =
        omega (arith, sum_off m p (λ t. x) (λ t h q. omega (arith, one t m (le_step h) (lt-suc_self m) q e)))
    last false e before = omega arith

pub sum_injection : (m n : ℕ) (o f : ℕ → ℕ) → ((t : ℕ) → t < m → o t < n)
    → ((s t : ℕ) → s < m → t < m → o s ≡ o t → s ≡ t) → sum m (λ t. f (o t)) ≤ sum n f
sum_injection m n o f inside one =
    rw (
      sum_cong m (λ t. f (o t)) (λ t. sum n (λ i. given (eqb (o t) i) (f i))) (λ t h. sym (sum_pick n f (o t) (inside t h))),
      sum_swap m n (λ t i. given (eqb (o t) i) (f i)),
    )
    (sum_le n (λ i. sum m (λ t. given (eqb (o t) i) (f i))) f
    (λ i h. at_most_once m (λ t. eqb (o t) i) (f i) (λ s t a b p q. one s t a b (eqb-true (o s) i p ∙ sym (eqb-true (o t) i q)))))

picked_most : (n : ℕ) (f : ℕ → ℕ) (k : ℕ) → sum n (λ i. given (eqb k i) (f i)) ≤ f k
picked_most n f k = go (dec_lt k n)
  where
    go : Dec (k < n) → sum n (λ i. given (eqb k i) (f i)) ≤ f k
    go (yes h) = le_of_eq (sum_pick n f k h)
    go (no h) = omega (arith, sum_unpicked n f k (omega arith))

pub sum_cover : (m n : ℕ) (o f : ℕ → ℕ) → ((i : ℕ) → i < n → (t : ℕ) × (t < m) × (o t ≡ i)) → sum n f ≤ sum m (λ t. f (o t))
unfolding given
sum_cover m n o f covered =
    le_trans
    (rw (sum_swap m n (λ t i. given (eqb (o t) i) (f i)))
    (sum_le n f (λ i. sum m (λ t. given (eqb (o t) i) (f i))) (λ i h. reached i (covered i h))))
    (sum_le m (λ t. sum n (λ i. given (eqb (o t) i) (f i))) (λ t. f (o t)) (λ t h. picked_most n f (o t)))
  where
    reached : (i : ℕ) → (t : ℕ) × (t < m) × (o t ≡ i) → f i ≤ sum m (λ t. given (eqb (o t) i) (f i))
    reached i c = rw (eq-eqb (o c.0) i c.2) at (sum_part m (λ t. given (eqb (o t) i) (f i)) c.0 c.1)

pub one_more_lem : (m : ℕ) (f : ℕ → ℕ) → sum (suc m) f ≡ sum m f + f m
unfolding sum
one_more_lem m f = refl

pub no_places : (f : ℕ → ℕ) → sum 0 f ≡ 0
unfolding sum
no_places f = refl
