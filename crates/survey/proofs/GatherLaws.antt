-- The peeling's array. What one store does to the counts and the queue that the array holds: to add 8192 or take it away changes one count, and
-- to add a cell where none stands changes one place of the queue. With that, the cells that wait for none are gathered in their own order.
use mathlib.Core.Path.{◌≡◌, refl, sym, ap, ◌∙◌, subst}
use mathlib.Core.List.{List}
use mathlib.Core.Logic.{⊎_elim}
use Prim.Native.Nat.{ℕ, ◌+◌, ◌-◌, ◌/◌, ◌%◌, ◌≤◌, ◌<◌, zero-le}
use native.Mathlib.Nat.{not-suc-le-zero, le_of_suc-le-suc, le_refl, eq-or-lt_of_le, lt-suc_self}
use native.Mathlib.Numerals.{add-one}
use native.Mathlib.Omega.{arith}
use lib.Dec.{eqb}
use lib.ListN.{length, get_or, set, length-set}
use lib.Seq.{get_or-set_same, get_or-set_other}
use borrow.Author.Tests.{eqb-true, eqb-false}
use Rattle.theory.proofs.Cases.{by_cases}
use Rattle.survey.specs.Order.{waits, queued, Blank, Gathered, GatheredHeld}

-- a cell put where none stands
module _ (l : List ℕ) (t v : ℕ) (small : v < 8192) (bare : queued l t ≡ 0) (h : t < length l) where
  abbrev pub put : List ℕ
  put = set l t (get_or l t 0 + v)

  pub put_waits : (i : ℕ) → waits put i ≡ waits l i
  unfolding waits queued
  put_waits i =
      by_cases (eqb t i)
      (λ p. subst (λ (x : ℕ). get_or put x 0 / 8192 ≡ get_or l x 0 / 8192) (eqb-true t i p) (rw (get_or-set_same l t (get_or l t 0 + v) 0 h) (omega arith)))
      (λ p. ap (λ (x : ℕ). x / 8192) (get_or-set_other l t i (get_or l t 0 + v) 0 (λ s. eqb-false t i p (sym s))))

  pub put_queued : queued put t ≡ v
  unfolding queued
  put_queued = rw (get_or-set_same l t (get_or l t 0 + v) 0 h) (omega arith)

  pub put_others : (s : ℕ) → (s ≡ t → ⊥) → queued put s ≡ queued l s
  unfolding queued
  put_others s e = ap (λ (x : ℕ). x % 8192) (get_or-set_other l t s (get_or l t 0 + v) 0 e)

-- one cell less to wait for
module _ (l : List ℕ) (j : ℕ) (some : 8192 ≤ get_or l j 0) (h : j < length l) where
  abbrev pub less : List ℕ
  less = set l j (get_or l j 0 - 8192)

  pub less_waits : waits less j + 1 ≡ waits l j
  unfolding waits
  less_waits = rw (get_or-set_same l j (get_or l j 0 - 8192) 0 h) (omega arith)

  pub less_others : (i : ℕ) → (j ≡ i → ⊥) → waits less i ≡ waits l i
  unfolding waits
  less_others i e = ap (λ (x : ℕ). x / 8192) (get_or-set_other l j i (get_or l j 0 - 8192) 0 (λ s. e (sym s)))

  pub less_queued : (t : ℕ) → queued less t ≡ queued l t
  unfolding queued
  less_queued t =
      by_cases (eqb j t)
      (λ p. subst (λ (x : ℕ). get_or less x 0 % 8192 ≡ get_or l x 0 % 8192) (eqb-true j t p) (rw (get_or-set_same l j (get_or l j 0 - 8192) 0 h) (omega arith)))
      (λ p. ap (λ (x : ℕ). x % 8192) (get_or-set_other l j t (get_or l j 0 - 8192) 0 (λ s. eqb-false j t p (sym s))))

pub gather_none : {n : ℕ} {l : List ℕ} → Blank n l → GatheredHeld n (waits l) 0 0 l
gather_none b =
    record {
      sized = b.sized;
      queue = record {
        short = zero-le;
        placed = λ t h. absurd (not-suc-le-zero h);
        rising = λ s t a h. absurd (not-suc-le-zero h);
        free = λ t h. absurd (not-suc-le-zero h);
        all = λ i h. absurd (not-suc-le-zero h);
        left = λ i h. refl;
      };
      blank = λ t a h. b.blank t h;
    }

module _ {n : ℕ} {counts : ℕ → ℕ} {k tail : ℕ} {l : List ℕ} (g : GatheredHeld n counts k tail l) where
  pub gather_fits : k < n → n ≤ 4096 → ((t : ℕ) → t < n → counts t ≤ 4096) → get_or l tail 0 + k < 4294967296
  unfolding waits queued
  gather_fits h m f =
      let inside : tail < n = omega (arith, g.queue.short) in
      omega (arith, g.blank tail (le_refl tail) inside, g.queue.left tail inside, f tail inside)

  pub gather_skip : 8192 ≤ get_or l k 0 → GatheredHeld n counts (k + 1) tail l
  unfolding waits
  gather_skip h =
      let q = g.queue in
      record {
        sized = g.sized;
        queue = record {
          short = omega (arith, q.short);
          placed = λ t a. omega (arith, q.placed t a);
          rising = q.rising;
          free = q.free;
          all = λ i a e.
              ⊎_elim (λ s. absurd (omega (arith, ap (λ (x : ℕ). get_or l x 0) s))) (λ b. q.all i b e)
              (eq-or-lt_of_le (le_of_suc-le-suc (rw add-one at a)));
          left = q.left;
        };
        blank = g.blank;
      }

  module _ (h : k < n) (m : n ≤ 4096) (e : get_or l k 0 < 8192) where
    abbrev q : Gathered n counts (waits l) (queued l) k tail
    q = g.queue

    abbrev l' : List ℕ
    l' = set l tail (get_or l tail 0 + k)

    small : k < 8192
    small = omega arith

    bare : queued l tail ≡ 0
    bare = g.blank tail (le_refl tail) (omega (arith, q.short))

    room' : tail < length l
    room' = omega (arith, q.short, g.sized)

    here : queued l' tail ≡ k
    here = put_queued l tail k small bare room'

    same : (t : ℕ) → t < tail → queued l' t ≡ queued l t
    same t a = put_others l tail k small bare room' t (λ s. omega arith)

    none : waits l k ≡ 0
    none = unfold waits in omega arith

    cases : {P : ℕ → Type 0} → ((t : ℕ) → t < tail → P t) → P tail → (t : ℕ) → t < tail + 1 → P t
    cases {P} old this t a = ⊎_elim (λ e. subst P (sym e) this) (old t) (eq-or-lt_of_le (le_of_suc-le-suc (rw add-one at a)))

    pub gather_put : GatheredHeld n counts (k + 1) (tail + 1) l'
    gather_put =
        record {
          sized = length-set l tail (get_or l tail 0 + k) ∙ g.sized;
          queue = record {
            short = omega (arith, q.short);
            placed = λ t a. cases {P = λ t. queued l' t < k + 1} (λ t b. rw (same t b) (omega (arith, q.placed t b))) (rw here (omega arith)) t a;
            rising = λ s t a b.
                cases {P = λ t. s < t → queued l' s < queued l' t}
                (λ t b a. rw (same t b, same s (omega arith)) (q.rising s t a b))
                (λ a. rw (here, same s a) (q.placed s a)) t b a;
            free = λ t a.
                cases {P = λ t. waits l' (queued l' t) ≡ 0}
                (λ t b. put_waits l tail k small bare room' (queued l' t) ∙ rw (same t b) (q.free t b))
                (put_waits l tail k small bare room' (queued l' tail) ∙ rw here none) t a;
            all = λ i a z.
                ⊎_elim (λ s. (tail, rw add-one (lt-suc_self tail), here ∙ sym s))
                (λ b. let (t, c, f) = q.all i b (sym (put_waits l tail k small bare room' i) ∙ z) in (t, omega arith, same t c ∙ f))
                (eq-or-lt_of_le (le_of_suc-le-suc (rw add-one at a)));
            left = λ i a. put_waits l tail k small bare room' i ∙ q.left i a;
          };
          blank = λ t a b. put_others l tail k small bare room' t (λ s. omega arith) ∙ g.blank t (omega arith) b;
        }
