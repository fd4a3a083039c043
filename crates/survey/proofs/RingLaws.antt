-- Why peeling gives an order upslope first, or what is left over lies on rings. At the end each cell that waits is fed by another that waits, so
-- they lie on rings; a cell of the queue does not, since what leads to it stands before it in the queue, and what leads there before that.
use mathlib.Core.Path.{◌≡◌, refl, sym, ap, ◌∙◌, subst}
use mathlib.Core.Bool.{Bool, true, false, ◌&&◌}
use mathlib.Core.Logic.{⊎_elim}
use Prim.Native.Nat.{ℕ, zero, suc, ◌≤◌, ◌<◌}
use native.Mathlib.Nat.{eq-zero-or-pos, le_of_suc-le-suc, lt_trans, lt_of_lt_of_le}
use native.Mathlib.Omega.{arith, by_contra}
use lib.Dec.{eqb, ltb}
use borrow.Author.Tests.{eq-eqb, ne_eqb, eqb-true, eqb-false, ltb-true, ltb-false, lt-ltb, le-ltb}
use Rattle.theory.specs.Sums.{given}
use Rattle.theory.specs.Lowest.{Found, at, nowhere, lowest, some}
use Rattle.theory.specs.Ways.{walk, on_ring, OneWay, UpslopeFirst}
use Rattle.theory.proofs.Cases.{by_cases, and_left, and_right}
use Rattle.theory.proofs.SumLaws.{sum_cong, sum_same, sum_none, sum_cover, given_most}
use Rattle.theory.proofs.GivenLaws.{given_false}
use Rattle.theory.proofs.LowestLaws.{some_true, some_false, at_lowest}
use Rattle.theory.proofs.WayLaws.{ring_back, fed_on_ring}
use Rattle.survey.specs.Order.{leading, Queue}
use Rattle.survey.proofs.OrderLaws.{elsewhere}

-- all of the queue is taken
module _ {n : ℕ} {next waits queued : ℕ → ℕ} {rest : ℕ → Bool} {tail : ℕ} (q : Queue n next waits queued rest tail)
    (gone : (t : ℕ) → t < tail → rest (queued t) ≡ false) (out : OneWay n next) where
  upslope : (k t x : ℕ) → t < tail → x < n → walk next (suc k) x ≡ queued t → (u : ℕ) × (u < t) × (queued u ≡ x)
  unfolding walk
  upslope zero t x a b e = q.earlier t x a b e
  upslope (suc k) t x a b e =
      let y = walk next (suc k) x in
      let inside : y < n = by_contra _ _ (λ l. omega (arith, out.outside y (le_of_suc-le-suc l), q.placed t a)) in
      let (u, c, f) = q.earlier t y a inside e in
      let (v, d, g) = upslope k u x (lt_trans c a) b (sym f) in
      (v, lt_trans d c, g)

  off_ring : (i : ℕ) → i < n → waits i ≡ 0 → on_ring n next i ≡ false
  off_ring i h z =
      by_cases (on_ring n next i)
      (λ e.
      let (t, a, f) = q.all i h z in
      let (k, _, b) = ring_back n next i e in
      let (u, c, g) = upslope k t i a h (b ∙ sym f) in
      absurd (omega (arith, q.once u t (lt_trans c a) a (g ∙ sym f))))
      (λ e. e)

  fed : (i : ℕ) → i < n → 0 < waits i → (j : ℕ) × (j < n) × (ltb 0 (waits j) ≡ true) × (next j ≡ i)
  fed i h w =
      by_cases (some n (λ j. eqb (next j) i && ltb 0 (waits j)))
      (λ e. let (j, a, b) = some_true n (λ j. eqb (next j) i && ltb 0 (waits j)) e in
      (j, a, and_right (eqb (next j) i) (ltb 0 (waits j)) b, eqb-true (next j) i (and_left (eqb (next j) i) (ltb 0 (waits j)) b)))
      (λ e. absurd (omega (
        arith,
        q.left i h,
        sum_none n,
        sum_cong n _ (λ j. 0) (λ j a. nothing j a (some_false n (λ j. eqb (next j) i && ltb 0 (waits j)) e j a)),
      )))
    where
      none : (j : ℕ) → next j ≡ i → (eqb (next j) i && ltb 0 (waits j)) ≡ false → waits j ≡ 0
      none j s e = omega (arith, ltb-false 0 (waits j) (rw (eq-eqb (next j) i s) at e))

      nothing : (j : ℕ) → j < n → (eqb (next j) i && ltb 0 (waits j)) ≡ false → given (rest j) (leading next i j) ≡ 0
      nothing j a e =
          by_cases (eqb (next j) i)
          (λ s. let (t, b, f) = q.all j a (none j (eqb-true (next j) i s) e) in
          given_false (rest j) _ (subst (λ (x : ℕ). rest x ≡ false) f (gone t b)))
          (λ s. omega (arith, given_most (rest j) (leading next i j), elsewhere next i j (eqb-false (next j) i s)))

  on_ring_lem : (i : ℕ) → i < n → 0 < waits i → on_ring n next i ≡ true
  on_ring_lem i h w =
      fed_on_ring n next out (λ j. ltb 0 (waits j)) (λ j a e. fed j a (ltb-true 0 (waits j) e)) i h (lt-ltb 0 (waits i) w)

  pub leftover_rings : (i : ℕ) → i < n → ltb 0 (waits i) ≡ on_ring n next i
  leftover_rings i h =
      ⊎_elim (λ e. le-ltb 0 (waits i) (omega arith) ∙ sym (off_ring i h e)) (λ w. lt-ltb 0 (waits i) w ∙ sym (on_ring_lem i h w))
      (eq-zero-or-pos (waits i))

  place : Found → ℕ
  place (at t) = t
  place nowhere = 0

  turn_of : ℕ → ℕ
  turn_of i = place (lowest n (λ t. eqb (queued t) i))

  module _ (none : (i : ℕ) → i < n → waits i ≡ 0) where
    whole : n ≤ tail
    whole = omega (arith, sum_same n 1, sum_same tail 1, sum_cover tail n queued (λ i. 1) (λ i h. q.all i h (none i h)))

    turned : (t : ℕ) → t < n → turn_of (queued t) ≡ t
    unfolding turn_of place
    turned t h =
        ap place (at_lowest n (λ s. eqb (queued s) (queued t)) t h (eq-eqb (queued t) (queued t) refl)
        (λ s l. ne_eqb (queued s) (queued t) (λ e. omega (arith, whole, q.once s t (omega (arith, whole)) (omega (arith, whole)) e))))

    turn : (i : ℕ) → i < n → (t : ℕ) × (t < n) × (queued t ≡ i) × (turn_of i ≡ t)
    turn i h =
        let (t, a, e) = q.all i h (none i h) in
        let b : t < n = lt_of_lt_of_le a q.short in
        (t, b, e, subst (λ (j : ℕ). turn_of j ≡ t) e (turned t b))

    pub peeled : UpslopeFirst n next
    peeled =
        record {
          who = queued;
          turn = turn_of;
          placed = λ t h. q.placed t (lt_of_lt_of_le h whole);
          turned = λ i h. let (t, a, b, c) = turn i h in rw c a;
          who_turn = λ i h. let (t, a, b, c) = turn i h in rw c b;
          turn_who = turned;
          after = λ j h l.
              let (t, a, b, c) = turn (next j) l in
              let (s, d, e, f) = turn j h in
              let (u, x, y) = q.earlier t j (lt_of_lt_of_le a whole) h (sym b) in
              omega (arith, q.once s u (lt_of_lt_of_le d whole) (lt_trans x (lt_of_lt_of_le a whole)) (e ∙ sym y));
        }

    pub peeled_who : (t : ℕ) → peeled.who t ≡ queued t
    unfolding peeled
    peeled_who t = refl
