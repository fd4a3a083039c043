-- What has arrived at each cell along an order, upslope first. Before turn t the cells of the turns before it have handed on what they pass: never
-- more than what arrives by rule 4, and, when a cell's own turn has come, all of it, since every cell that points to it had an earlier turn. So a
-- list to which each cell in its turn adds what it hands on holds rule 4's inflow of every cell when it is read, and no sum passes the cell's water.
use mathlib.Core.Path.{◌≡◌, sym, ap, ◌∙◌}
use mathlib.Core.List.{List}
use Prim.Native.Nat.{ℕ, suc, ◌+◌, ◌≤◌, ◌<◌}
use native.Mathlib.Nat.{not-suc-le-zero, lt_of_lt_of_le, le_antisymm}
use native.Mathlib.Numerals.{add-one}
use native.Mathlib.Omega.{arith}
use lib.Dec.{eqb}
use lib.ListN.{length, get_or, replicate, length-set, length-replicate, get_or-replicate}
use lib.Seq.{get_or-set_same, get_or-set_other}
use borrow.Author.Tests.{lt-ltb, le-ltb, eq-eqb, ne_eqb, eqb-true, eqb-false}
use Rattle.theory.specs.Lists.{added_at}
use Rattle.theory.specs.Sums.{sum, given}
use Rattle.theory.specs.Ways.{UpslopeFirst}
use Rattle.theory.proofs.Cases.{by_cases, below_or_not}
use Rattle.theory.proofs.SumLaws.{sum_injection}
use Rattle.theory.proofs.SumsAlong.{sum_support}
use Rattle.theory.proofs.AlongLaws.{once}
use Rattle.paper.specs.Flow.{arriving, water}
use Rattle.paper.proofs.FlowLaws.{water_reached}

module _ {n : ℕ} {next : ℕ → ℕ} (passed : ℕ → ℕ → ℕ) (own : ℕ → ℕ) (order : UpslopeFirst n next) where
  abbrev W : ℕ → ℕ
  W = water n next passed own

  -- by rule 4
  abbrev inflow : ℕ → ℕ
  inflow = arriving n next passed W

  -- what j hands to i
  handed : ℕ → ℕ → ℕ
  handed i j = given (eqb (next j) i) (passed j (W j))

  -- before turn t
  pub arrived : ℕ → ℕ → ℕ
  arrived t i = sum t (λ u. handed i (order.who u))

  handing : (i j : ℕ) → 0 < handed i j → next j ≡ i
  unfolding handed given
  handing i j h = by_cases (eqb (next j) i) (λ e. eqb-true (next j) i e) (λ e. absurd (not-suc-le-zero (rw e at h)))

  arrived_most : (t i : ℕ) → t ≤ n → arrived t i ≤ inflow i
  unfolding arrived handed arriving
  arrived_most t i h =
      sum_injection t n order.who (handed i) (λ u a. order.placed u (lt_of_lt_of_le a h))
      (λ s u a b. once order s u (lt_of_lt_of_le a h) (lt_of_lt_of_le b h))

  -- all that point to it have had their turn
  arrived_ripe : (t : ℕ) → t < n → arrived t (order.who t) ≡ inflow (order.who t)
  unfolding arrived handed arriving
  arrived_ripe t h =
      let i = order.who t in
      let before : t ≤ n = omega arith in
      le_antisymm (arrived_most t i before)
      (sum_support t n order.who (handed i) (λ u a. order.placed u (lt_of_lt_of_le a before))
      (λ j a p. let e : next j ≡ i = handing i j p in
      (order.turn j, omega (arith, order.after j a (rw e (order.placed t h)), ap order.turn e, order.turn_who t h), order.who_turn j a)))

  one_more_lem : (t i : ℕ) → arrived (suc t) i ≡ arrived t i + handed i (order.who t)
  unfolding arrived sum
  one_more_lem t i = omega arith

  -- a list of what has arrived before turn t
  pub record Arrived (t : ℕ) (l : List ℕ) : Type 0 where
    pub room : n ≤ length l
    pub each : (i : ℕ) → i < n → get_or l i 0 ≡ arrived t i

  pub arrived_none : (m : ℕ) → n ≤ m → Arrived 0 (replicate m 0)
  unfolding arrived sum
  arrived_none m h = record { room = rw (length-replicate {A = ℕ} m 0) h; each = λ i l. get_or-replicate m i 0 0 (lt_of_lt_of_le l h) }

  -- the cell whose turn it is, and what it hands on
  module _ {t : ℕ} {l : List ℕ} (s : Arrived t l) (h : t < n) (cell : ℕ) (whose : cell ≡ order.who t) where
    pub arrived_reached : get_or l cell 0 ≡ inflow cell
    arrived_reached = s.each cell (rw whose (order.placed t h)) ∙ rw whose (arrived_ripe t h)

    module _ (x way : ℕ) (hands : x ≡ passed cell (W cell)) (leads : next cell ≡ way) where
      there : handed way (order.who t) ≡ x
      unfolding handed given
      there = rw (← whose, leads, eq-eqb way way (λ k. way)) (sym hands)

      elsewhere : (i : ℕ) → (way ≡ i → ⊥) → handed i (order.who t) ≡ 0
      unfolding handed given
      elsewhere i e = rw (← whose, leads, ne_eqb way i e)

      more : way < n → get_or l way 0 + x ≡ arrived (suc t) way
      more a = omega (arith, s.each way a, one_more_lem t way, there)

      pub arrived_fits : way < n → own way + (get_or l way 0 + x) ≤ W way
      arrived_fits a = rw (more a) (omega (arith, arrived_most (suc t) way h, water_reached n next passed order own way a))

      still : (i : ℕ) → i < n → (way ≡ i → ⊥) → get_or l i 0 ≡ arrived (t + 1) i
      still i b other = rw add-one (omega (arith, s.each i b, one_more_lem t i, elsewhere i other))

      pub arrived_next : Arrived (t + 1) (added_at n way x l)
      unfolding added_at
      arrived_next =
          below_or_not way n
          (λ a. rw (lt-ltb way n a)
          (record {
            room = rw (length-set l way (get_or l way 0 + x)) s.room;
            each = λ i b.
                by_cases (eqb way i)
                (λ q. let same : way ≡ i = eqb-true way i q in
                rw (← same, get_or-set_same l way (get_or l way 0 + x) 0 (lt_of_lt_of_le a s.room), add-one) (more a))
                (λ q. get_or-set_other l way i (get_or l way 0 + x) 0 (λ e. eqb-false way i q (sym e)) ∙ still i b (eqb-false way i q));
          }))
          (λ past. rw (le-ltb way n past) (record { room = s.room; each = λ i b. still i b (λ (e : way ≡ i). omega arith) }))
