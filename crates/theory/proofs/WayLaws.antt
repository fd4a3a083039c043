-- Rings and orders of places with one way out of each. Among more steps than places two come by one place (the pigeonhole: an injection of
-- n + 1 places into n would sum to too much), so a way around can be cut to n steps, and a set in which each place is fed by another of the set,
-- followed back, goes around. Where there is no ring, then, whatever is left of the places has one to which none of them leads: to visit
-- such a place at each turn gives the order. And along an order turns only rise, so no way leads around.
use mathlib.Core.Path.{◌≡◌, refl, sym, ap, ◌∙◌}
use mathlib.Core.Bool.{Bool, true, false, not, ◌&&◌, true≢false, and-false, and-eq-true_iff}
use mathlib.Core.Logic.{◌⊎◌, inl, inr, ⊎_elim}
use Prim.Native.Nat.{ℕ, zero, suc, ◌+◌, ◌-◌, ◌≤◌, ◌<◌}
use native.Mathlib.Nat.{not-suc-le-zero, le_of_suc-le-suc, le_step, lt-suc_self, lt_trans, le_antisymm, not-le_of_lt, eq-or-lt_of_le}
use native.Mathlib.Nat.{zero-add, suc-add, sub-add_cancel}
use native.Mathlib.Numerals.{add-one}
use native.Mathlib.Omega.{arith, by_contra}
use lib.Dec.{eqb}
use borrow.Author.Tests.{eqb-true, eqb-false, eq-eqb, ne_eqb, not-true, not-false}
use Rattle.theory.specs.Lowest.{Found, at, nowhere, lowest, some}
use Rattle.theory.specs.Ways.{walk, on_ring, OneWay, RingFree, UpslopeFirst}
use Rattle.theory.proofs.LowestLaws.{lowest_at, lowest_none, some_true, true_some, some_false, false_some}
use Rattle.theory.proofs.SumLaws.{sum_same, sum_injection, sum_cover}

pub pigeonhole : (n : ℕ) (f : ℕ → ℕ) → ((k : ℕ) → k < suc n → f k < n) → (a : ℕ) × (b : ℕ) × (a < b) × (b < suc n) × (f a ≡ f b)
pigeonhole n f inside = go (some (suc n) twice) refl
  where
    twice : ℕ → Bool
    twice b = some b (λ a. eqb (f a) (f b))

    apart : some (suc n) twice ≡ false → (s t : ℕ) → s < suc n → f s ≡ f t → s ≤ t
    apart e s t h q =
        by_contra s t (λ l. eqb-false (f t) (f s) (some_false s (λ a. eqb (f a) (f s)) (some_false (suc n) twice e s h) t l) (sym q))

    go : (t : Bool) → some (suc n) twice ≡ t → (a : ℕ) × (b : ℕ) × (a < b) × (b < suc n) × (f a ≡ f b)
    go true e =
        let (b, h, p) = some_true (suc n) twice e in
        let (a, l, q) = some_true b (λ a. eqb (f a) (f b)) p in
        (a, b, l, h, eqb-true (f a) (f b) q)
    go false e =
        absurd (omega (
          arith,
          sum_same (suc n) 1,
          sum_same n 1,
          sum_injection (suc n) n f (λ i. 1) inside (λ s t a b q. le_antisymm (apart e s t a q) (apart e t s b (sym q))),
        ))

pub walk_add : (next : ℕ → ℕ) (a b i : ℕ) → walk next (a + b) i ≡ walk next a (walk next b i)
unfolding walk
walk_add next zero b i = rw zero-add
walk_add next (suc a) b i = rw suc-add (ap next (walk_add next a b i))

-- a walk around that comes by one place twice may leave out the way between
shorter : (next : ℕ → ℕ) (i j a b : ℕ) → walk next (suc j) i ≡ i → b ≤ j → walk next a i ≡ walk next b i
    → walk next (suc (j - b + a)) i ≡ i
unfolding walk
shorter next i j a b e h q =
    ap next (walk_add next (j - b) a i ∙ ap (walk next (j - b)) q ∙ sym (walk_add next (j - b) b i) ∙ rw sub-add_cancel) ∙ e

module _ (n : ℕ) (next : ℕ → ℕ) where
  -- what leads inside is inside
  from_inside : OneWay n next → (d i : ℕ) → walk next d i < n → i < n
  unfolding walk
  from_inside out zero i h = h
  from_inside out (suc d) i h = from_inside out d i (by_contra _ _ (λ l. not-le_of_lt h (out.outside _ (le_of_suc-le-suc l))))

  pub ring_steps : OneWay n next → (i k : ℕ) → i < n → walk next (suc k) i ≡ i → on_ring n next i ≡ true
  unfolding on_ring walk
  ring_steps out i k h e = go (lowest (suc k) back) refl
    where
      back : ℕ → Bool
      back j = eqb (walk next (suc j) i) i

      inside : (j : ℕ) → walk next (suc j) i ≡ i → (s : ℕ) → s ≤ suc j → walk next s i < n
      inside j p s m = from_inside out (suc j - s) (walk next s i) (rw (← walk_add, sub-add_cancel, p) h)

      least : (j : ℕ) → walk next (suc j) i ≡ i → ((c : ℕ) → c < j → back c ≡ false) → j < n
      least j p none =
          by_contra (suc j) n (λ w.
          let (a, b, l, m, q) = pigeonhole n (λ s. walk next s i) (λ s l. inside j p s (omega arith)) in
          eqb-false (walk next (suc (j - b + a)) i) i (none (j - b + a) (omega arith)) (shorter next i j a b p (omega arith) q))

      go : (r : Found) → lowest (suc k) back ≡ r → some n back ≡ true
      go (at j) q =
          let (_, p, none) = lowest_at (suc k) back q in
          true_some n back j (least j (eqb-true (walk next (suc j) i) i p) none) p
      go nowhere q = absurd (true≢false (sym (eq-eqb (walk next (suc k) i) i e) ∙ lowest_none (suc k) back q k (lt-suc_self k)))

  pub ring_back : (i : ℕ) → on_ring n next i ≡ true → (k : ℕ) × (k < n) × (walk next (suc k) i ≡ i)
  unfolding on_ring
  ring_back i e = let (k, h, q) = some_true n (λ j. eqb (walk next (suc j) i) i) e in (k, h, eqb-true (walk next (suc k) i) i q)

  pub ring_free : ((i : ℕ) → i < n → on_ring n next i ≡ false) → OneWay n next → RingFree n next
  ring_free off out = record { free = λ i k h e. true≢false (sym (ring_steps out i k h e) ∙ off i h) }

  pub free_ring : RingFree n next → (i : ℕ) → i < n → on_ring n next i ≡ false
  unfolding on_ring
  free_ring r i h = false_some n (λ j. eqb (walk next (suc j) i) i) (λ k l. ne_eqb (walk next (suc k) i) i (r.free i k h))

  pub fed_on_ring : OneWay n next → (S : ℕ → Bool)
      → ((i : ℕ) → i < n → S i ≡ true → (j : ℕ) × (j < n) × (S j ≡ true) × (next j ≡ i))
      → (i : ℕ) → i < n → S i ≡ true → on_ring n next i ≡ true
  unfolding walk
  fed_on_ring out S fed i h e = let (a, b, l, _, q) = pigeonhole n (λ k. (back k).0) (λ k _. (back k).1) in around a b l q
    where
      back : ℕ → (j : ℕ) × (j < n) × (S j ≡ true)
      back zero = (i, h, e)
      back (suc k) = let b = back k in let c = fed b.0 b.1 b.2 in (c.0, c.1, c.2)

      forth : (k : ℕ) → walk next k (back k).0 ≡ i
      forth zero = refl
      forth (suc k) =
          let b = back k in
          ap (λ (m : ℕ). walk next m (back (suc k)).0) (sym (add-one k)) ∙ walk_add next k 1 (back (suc k)).0
          ∙ ap (walk next k) (fed b.0 b.1 b.2).3 ∙ forth k

      around : (a b : ℕ) → a < b → (back a).0 ≡ (back b).0 → on_ring n next i ≡ true
      around a b l q =
          let d = b - suc a in
          let to : suc d + a ≡ b = omega arith in
          ring_steps out i d h
          (ap (walk next (suc d)) (sym (forth a)) ∙ sym (walk_add next (suc d) a (back a).0) ∙ rw (to, q) (forth b))

  pub order_free : UpslopeFirst n next → OneWay n next → RingFree n next
  unfolding walk
  order_free u out = record { free = λ i k h e. let up = rises i k h (rw e h) in let same = ap u.turn e in omega arith }
    where
      rises : (i k : ℕ) → i < n → walk next (suc k) i < n → u.turn i < u.turn (walk next (suc k) i)
      rises i zero h l = u.after i h l
      rises i (suc k) h l =
          let m : walk next (suc k) i < n = from_inside out 1 (walk next (suc k) i) l in
          lt_trans (rises i k h m) (u.after (walk next (suc k) i) m l)

place : Found → ℕ
place (at i) = i
place nowhere = 0

found : (n : ℕ) (test : ℕ → Bool)
    → ((place (lowest n test) < n) × (test (place (lowest n test)) ≡ true)) ⊎ ((j : ℕ) → j < n → test j ≡ false)
unfolding place
found n test = go (lowest n test) refl
  where
    go : (r : Found) → lowest n test ≡ r → ((place r < n) × (test (place r) ≡ true)) ⊎ ((j : ℕ) → j < n → test j ≡ false)
    go (at i) e = let (h, t, _) = lowest_at n test e in inl (h, t)
    go nowhere e = inr (lowest_none n test e)

module _ (n : ℕ) (next : ℕ → ℕ) where
  -- of the places in S, i is one to which none of S leads
  record Ready (S : ℕ → Bool) (i : ℕ) : Type 0 where
    inside : i < n
    fresh : S i ≡ true
    first : (j : ℕ) → j < n → next j ≡ i → S j ≡ false

  leads : (ℕ → Bool) → ℕ → ℕ → Bool
  leads S i j = eqb (next j) i && S j

  ready : (ℕ → Bool) → ℕ → Bool
  ready S i = S i && not (some n (leads S i))

  pick : (ℕ → Bool) → ℕ
  pick S = place (lowest n (ready S))

  -- what is left at turn k, where each turn visits the lowest place that is ready
  left : ℕ → ℕ → Bool
  left zero i = true
  left (suc k) i = left k i && not (eqb (pick (left k)) i)

  abbrev visit : ℕ → ℕ
  visit k = pick (left k)

  turn_of : ℕ → ℕ
  turn_of i = place (lowest n (λ t. eqb (visit t) i))

  gone : (k i : ℕ) → left k i ≡ false → (t : ℕ) × (t < k) × (visit t ≡ i)
  unfolding left
  gone zero i e = absurd (true≢false e)
  gone (suc k) i e = go (left k i) refl (gone k i)
    where
      go : (b : Bool) → left k i ≡ b → (left k i ≡ false → (t : ℕ) × (t < k) × (visit t ≡ i)) → (t : ℕ) × (t < suc k) × (visit t ≡ i)
      go true p before = (k, lt-suc_self k, eqb-true (visit k) i (not-false (eqb (visit k) i) (rw p at e)))
      go false p before = let (t, h, q) = before p in (t, le_step h, q)

  visited : (k t : ℕ) → t < k → left k (visit t) ≡ false
  unfolding left
  visited zero t h = absurd (not-suc-le-zero h)
  visited (suc k) t h =
      ⊎_elim
      (λ e. let q = eq-eqb (visit k) (visit t) (ap visit (sym e)) in rw q (and-false (left k (visit t))))
      (λ l. rw (visited k t l))
      (eq-or-lt_of_le (le_of_suc-le-suc h))

  new : (a b : ℕ) → a < b → left b (visit b) ≡ true → visit a ≡ visit b → ⊥
  new a b l p q = true≢false (sym p ∙ ap (left b) (sym q) ∙ visited b a l)

  module _ (r : RingFree n next) (out : OneWay n next) where
    picked : (S : ℕ → Bool) (i : ℕ) → i < n → S i ≡ true → Ready S (pick S)
    unfolding pick ready leads
    picked S i h e = ⊎_elim good (λ none. absurd (bad none)) (found n (ready S))
      where
        good : {m : ℕ} → (m < n) × (ready S m ≡ true) → Ready S m
        good {m} p =
            let (a, b) = (and-eq-true_iff (S m) (not (some n (leads S m)))).0 p.1 in
            record {
              inside = p.0;
              fresh = a;
              first = λ j l s. rw (eq-eqb (next j) m s) at (some_false n (leads S m) (not-true (some n (leads S m)) b) j l);
            }

        fed : ((j : ℕ) → j < n → ready S j ≡ false) → (c : ℕ) → c < n → S c ≡ true → (j : ℕ) × (j < n) × (S j ≡ true) × (next j ≡ c)
        fed none c l s =
            let (j, m, p) = some_true n (leads S c) (not-false (some n (leads S c)) (rw s at (none c l))) in
            let (a, b) = (and-eq-true_iff (eqb (next j) c) (S j)).0 p in
            (j, m, b, eqb-true (next j) c a)

        bad : ((j : ℕ) → j < n → ready S j ≡ false) → ⊥
        bad none = true≢false (sym (fed_on_ring n next out S (fed none) i h e) ∙ free_ring n next r i h)

    -- fewer turns than n leave a place, so that each visits one that is ready
    each : (k : ℕ) → k < n → Ready (left k) (visit k)
    each k h = go (some n (left k)) refl
      where
        go : (b : Bool) → some n (left k) ≡ b → Ready (left k) (visit k)
        go true e = let (i, l, p) = some_true n (left k) e in picked (left k) i l p
        go false e =
            absurd (omega (arith, sum_same n 1, sum_same k 1, sum_cover k n visit (λ i. 1) (λ i l. gone k i (some_false n (left k) e i l))))

    -- a place left after n turns would be a new one for another turn, the n + 1st
    emptied : (i : ℕ) → i < n → left n i ≡ false
    emptied i h = go (left n i) refl
      where
        all : left n i ≡ true → (k : ℕ) → k < suc n → Ready (left k) (visit k)
        all e k l = ⊎_elim (λ q. rw q (picked (left n) i h e)) (each k) (eq-or-lt_of_le (le_of_suc-le-suc l))

        go : (b : Bool) → left n i ≡ b → b ≡ false
        go true e = let (a, b, l, m, q) = pigeonhole n visit (λ k l. (all e k l).inside) in absurd (new a b l (all e b m).fresh q)
        go false e = refl

    in_turn : (i : ℕ) → i < n → (turn_of i < n) × (visit (turn_of i) ≡ i)
    unfolding turn_of
    in_turn i h =
        let (t, l, q) = gone n i (emptied i h) in
        ⊎_elim (λ p. (p.0, eqb-true (visit (turn_of i)) i p.1)) (λ none. absurd (eqb-false (visit t) i (none t l) q))
        (found n (λ t. eqb (visit t) i))

    once : (s t : ℕ) → s < n → t < n → visit s ≡ visit t → s ≡ t
    once s t a b q =
        le_antisymm (by_contra s t (λ l. new t s l (each s a).fresh (sym q))) (by_contra t s (λ l. new s t l (each t b).fresh q))

    pub free_order : UpslopeFirst n next
    free_order =
        record {
          who = visit;
          turn = turn_of;
          placed = λ t h. (each t h).inside;
          turned = λ i h. (in_turn i h).0;
          who_turn = λ i h. (in_turn i h).1;
          turn_who = λ t h. let (l, e) = in_turn (visit t) (each t h).inside in once (turn_of (visit t)) t l h e;
          after = λ j h l. earlier j h (in_turn (next j) l);
        }
      where
        earlier : (j : ℕ) → j < n → {t : ℕ} → (t < n) × (visit t ≡ next j) → turn_of j < t
        earlier j h {t} p =
            let (s, l, q) = gone t j ((each t p.0).first j h (sym p.1)) in
            let (a, b) = in_turn j h in
            let e = once (turn_of j) s a (lt_trans l p.0) (b ∙ sym q) in
            omega arith
