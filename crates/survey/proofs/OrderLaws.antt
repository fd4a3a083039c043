-- A step of peeling takes one cell c of the queue, no matter which: if c leads to a cell, that one waits for one cell less, and joins the queue
-- when it waits for none. The cell to which c leads was waiting, since c is one of the rest that lead there; and when it waits for none, no cell
-- of the rest leads there, so all that do stand in the queue before it.
use mathlib.Core.Path.{◌≡◌, refl, sym, ap, ◌∙◌, subst}
use mathlib.Core.Bool.{Bool, true, false, not, ◌&&◌, true≢false}
use mathlib.Core.Logic.{⊎_elim}
use Prim.Native.Nat.{ℕ, suc, ◌+◌, ◌≤◌, ◌<◌}
use native.Mathlib.Nat.{le_of_suc-le-suc, le_step, lt-suc_self, lt_trans, eq-or-lt_of_le, le_antisymm}
use native.Mathlib.Omega.{arith, by_contra}
use lib.Dec.{eqb}
use borrow.Author.Tests.{eq-eqb, ne_eqb, eqb-true, eqb-false}
use Rattle.theory.specs.Sums.{sum, given}
use Rattle.theory.proofs.Cases.{by_cases}
use Rattle.theory.proofs.SumLaws.{sum_cong, sum_add, sum_same, sum_part, sum_pick}
use Rattle.theory.proofs.GivenLaws.{given_true}
use Rattle.survey.specs.Order.{leading, Gathered, Queue}
use Rattle.theory.proofs.SumsAlong.{sum_extend}

pub leads : (next : ℕ → ℕ) (i j : ℕ) → next j ≡ i → leading next i j ≡ 1
unfolding leading given
leads next i j e = rw (eq-eqb (next j) i e)

pub elsewhere : (next : ℕ → ℕ) (i j : ℕ) → (next j ≡ i → ⊥) → leading next i j ≡ 0
unfolding leading given
elsewhere next i j e = rw (ne_eqb (next j) i e)

-- the rest without c
unfoldable pub without : (ℕ → Bool) → ℕ → ℕ → Bool
without rest c j = not (eqb c j) && rest j

module _ (rest : ℕ → Bool) (c : ℕ) where
  pub without_it : (j : ℕ) → c ≡ j → without rest c j ≡ false
  unfolding without
  without_it j e = rw (eq-eqb c j e)

  pub without_other : (j : ℕ) → (c ≡ j → ⊥) → without rest c j ≡ rest j
  unfolding without
  without_other j e = rw (ne_eqb c j e)

  split : rest c ≡ true → (j x : ℕ) → given (rest j) x ≡ given (without rest c j) x + given (eqb c j) x
  unfolding given
  split r j x =
      by_cases (eqb c j)
      (λ p. rw (without_it j (eqb-true c j p), p, subst (λ (i : ℕ). rest i ≡ true) (eqb-true c j p) r) (omega arith))
      (λ p. rw (without_other j (eqb-false c j p), p) (omega arith))

module _ {n : ℕ} {next waits queued : ℕ → ℕ} where
  -- the cells to which none leads are a queue of which none is taken
  pub start : {counts : ℕ → ℕ} {tail : ℕ} → Gathered n counts waits queued n tail
      → ((i : ℕ) → i < n → counts i ≡ sum n (leading next i)) → Queue n next waits queued (λ j. true) tail
  unfolding given
  start {counts} {tail} g each =
      record {
        short = g.short;
        placed = g.placed;
        once = λ s t a b e. le_antisymm (by_contra s t (λ l. omega (arith, g.rising t s l a))) (by_contra t s (λ l. omega (arith, g.rising s t l b)));
        free = g.free;
        all = g.all;
        left = λ i h. g.left i h ∙ each i h;
        taken = λ j h e. absurd (true≢false e);
        earlier = λ t j h l e.
            let i = queued t in
            absurd (omega (
              arith,
              g.free t h,
              g.left i (g.placed t h),
              each i (g.placed t h),
              leads next i j e,
              sum_part n (leading next i) j l,
            ));
      }

  module _ {rest : ℕ → Bool} {tail : ℕ} (q : Queue n next waits queued rest tail) where
    -- a cell that waits has room in the queue
    pub room : (j : ℕ) → j < n → 0 < waits j → tail < n
    room j h w =
        omega (
          arith,
          sum_extend tail n queued (λ i. 1) q.placed q.once j h (λ t l e. omega (arith, q.free t l, ap waits e)),
          sum_same tail 1,
          sum_same n 1,
        )

    -- c is taken
    module _ (c : ℕ) (h : c < n) (ready : rest c ≡ true) (none : waits c ≡ 0) where
      -- the cell to which it leads is waiting for it
      pub waiting : next c < n → 0 < waits (next c)
      waiting l =
          omega (
            arith,
            q.left (next c) l,
            leads next (next c) c refl,
            given_true (rest c) (leading next (next c) c) ready,
            sum_part n (λ j. given (rest j) (leading next (next c) j)) c h,
          )

      pub new : next c < n → (t : ℕ) → t < tail → queued t ≡ next c → ⊥
      new l t a e = omega (arith, waiting l, ap waits e, q.free t a)

      -- with one more cell taken
      one_less : (i : ℕ) → sum n (λ j. given (rest j) (leading next i j)) ≡ sum n (λ j. given (without rest c j) (leading next i j)) + leading next i c
      one_less i =
          omega (
            arith,
            sum_cong n (λ j. given (rest j) (leading next i j)) _ (λ j _. split rest c ready j (leading next i j)),
            sum_add n (λ j. given (without rest c j) (leading next i j)) (λ j. given (eqb c j) (leading next i j)),
            sum_pick n (leading next i) c h,
          )

      pub shut : (j : ℕ) → j < n → without rest c j ≡ false → waits j ≡ 0
      shut j l e =
          by_cases (eqb c j) (λ p. subst (λ (i : ℕ). waits i ≡ 0) (eqb-true c j p) none)
          (λ p. q.taken j l (sym (without_other rest c j (eqb-false c j p)) ∙ e))

      -- it leads outside
      pub left_behind : n ≤ next c → Queue n next waits queued (without rest c) tail
      left_behind l =
          record {
            short = q.short;
            placed = q.placed;
            once = q.once;
            free = q.free;
            all = q.all;
            left = λ i a. omega (arith, q.left i a, one_less i, elsewhere next i c (λ e. omega arith));
            taken = shut;
            earlier = q.earlier;
          }

      module _ {fewer : ℕ → ℕ} (l : next c < n) (one : fewer (next c) + 1 ≡ waits (next c))
          (others : (i : ℕ) → (next c ≡ i → ⊥) → fewer i ≡ waits i) where
        fewer_left : (i : ℕ) → i < n → fewer i ≡ sum n (λ j. given (without rest c j) (leading next i j))
        fewer_left i a =
            by_cases (eqb (next c) i)
            (λ e. let same = eqb-true (next c) i e in
            omega (arith, q.left i a, one_less i, leads next i c same, one, ap fewer same, ap waits same))
            (λ e. let other = eqb-false (next c) i e in
            omega (arith, q.left i a, one_less i, elsewhere next i c other, others i other))

        none_fewer : (i : ℕ) → waits i ≡ 0 → fewer i ≡ 0
        none_fewer i z = others i (λ e. omega (arith, waiting l, ap waits e)) ∙ z

        -- it leads to a cell that waits for others too
        pub still_waiting : 0 < fewer (next c) → Queue n next fewer queued (without rest c) tail
        still_waiting w =
            record {
              short = q.short;
              placed = q.placed;
              once = q.once;
              free = λ t a. none_fewer (queued t) (q.free t a);
              all = λ i a e. q.all i a (sym (others i (λ s. omega (arith, ap fewer s))) ∙ e);
              left = fewer_left;
              taken = λ j a e. none_fewer j (shut j a e);
              earlier = q.earlier;
            }

        -- all that lead to it are taken
        all_taken : fewer (next c) ≡ 0 → (j : ℕ) → j < n → next j ≡ next c → (u : ℕ) × (u < tail) × (queued u ≡ j)
        all_taken z j a e =
            by_cases (without rest c j)
            (λ p. absurd (omega (
              arith,
              fewer_left (next c) l,
              leads next (next c) j e,
              given_true (without rest c j) (leading next (next c) j) p,
              sum_part n (λ j. given (without rest c j) (leading next (next c) j)) j a,
            )))
            (λ p. q.all j a (shut j a p))

        module _ {longer : ℕ → ℕ} (z : fewer (next c) ≡ 0) (last : longer tail ≡ next c)
            (before : (t : ℕ) → t < tail → longer t ≡ queued t) where
          new_still : (t : ℕ) → t < tail → longer t ≡ next c → ⊥
          new_still t a e = new l t a (sym (before t a) ∙ e)

          cases : {P : ℕ → Type 0} → ((t : ℕ) → t < tail → P t) → P tail → (t : ℕ) → t < suc tail → P t
          cases {P} old this t a = ⊎_elim (λ e. subst P (sym e) this) (old t) (eq-or-lt_of_le (le_of_suc-le-suc a))

          -- it waits for none, and joins the queue
          pub joins : Queue n next fewer longer (without rest c) (suc tail)
          joins =
              record {
                short = room (next c) l (waiting l);
                placed = cases (λ t a. rw (before t a) (q.placed t a)) (rw last l);
                once = λ s t a b.
                    cases {P = λ s. longer s ≡ longer t → s ≡ t}
                    (λ s a. cases {P = λ t. longer s ≡ longer t → s ≡ t}
                    (λ t b e. q.once s t a b (sym (before s a) ∙ e ∙ before t b)) (λ e. absurd (new_still s a (e ∙ last))) t b)
                    (cases {P = λ t. longer tail ≡ longer t → tail ≡ t} (λ t b e. absurd (new_still t b (sym e ∙ last))) (λ e. refl) t b)
                    s a;
                free = cases (λ t a. rw (before t a) (none_fewer (queued t) (q.free t a))) (rw last z);
                all = λ i a e.
                    by_cases (eqb (next c) i)
                    (λ s. (tail, lt-suc_self tail, last ∙ eqb-true (next c) i s))
                    (λ s. let (t, b, f) = q.all i a (sym (others i (eqb-false (next c) i s)) ∙ e) in (t, le_step b, before t b ∙ f));
                left = fewer_left;
                taken = λ j a e. none_fewer j (shut j a e);
                earlier = λ t j a b.
                    cases {P = λ t. next j ≡ longer t → (u : ℕ) × (u < t) × (longer u ≡ j)}
                    (λ t a e. let (u, d, f) = q.earlier t j a b (e ∙ before t a) in (u, d, before u (lt_trans d a) ∙ f))
                    (λ e. let (u, d, f) = all_taken z j b (e ∙ last) in (u, d, before u d ∙ f))
                    t a;
              }

-- all of the queue is taken
