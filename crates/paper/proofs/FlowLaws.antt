-- Rule 4's water on a grid without rings. The water defined by steps upslope is the one and only list with W(i) = own(i) + the outflows
-- pointing to i: along an order in which each cell stands after those that point to it, what reaches a cell is settled once its turn has
-- come. It rises with the cells' own water and with what they pass on, no cell's passes the sum of all own water (the cells up to a cell's turn hold, besides it,
-- all that flows among them), and the inflows are the outflows that point inside.
use mathlib.Core.Path.{◌≡◌, sym, ap, ap₂, ◌∙◌, subst}
use mathlib.Core.Bool.{Bool}
use Prim.Native.Nat.{ℕ, zero, suc, ◌+◌, ◌≤◌, ◌<◌, zero-le}
use native.Mathlib.Nat.{not-suc-le-zero, le_of_suc-le-suc, lt_of_lt_of_le, le_refl, le_trans, add-le-add, add-zero, le_of_eq, le_of_lt}
use native.Mathlib.Omega.{arith}
use lib.Dec.{eqb, leb, ltb}
use borrow.Author.Tests.{eqb-true, leb-true, le-leb, lt-ltb, le-ltb, ltb-true}
use Rattle.theory.specs.Sums.{sum, given}
use Rattle.theory.specs.Ways.{UpslopeFirst}
use Rattle.theory.proofs.Cases.{below_or_not, by_cases}
use Rattle.theory.proofs.GivenLaws.{given_if, given_comm, given_implied}
use Rattle.theory.proofs.SumLaws.{sum_cong, sum_le, sum_add, sum_swap, sum_pick, sum_unpicked, given_add, given_sum, given_le, given_most}
use Rattle.paper.specs.Flow.{arriving, water_from, water}

module _ (n : ℕ) (next : ℕ → ℕ) (passed : ℕ → ℕ → ℕ) where
  -- what arrives at i goes by the water of the cells that point to it
  pub arriving_cong : (w v : ℕ → ℕ) (i : ℕ) → ((j : ℕ) → j < n → next j ≡ i → w j ≡ v j)
      → arriving n next passed w i ≡ arriving n next passed v i
  unfolding arriving
  arriving_cong w v i e =
      sum_cong n _ _ (λ j h. given_if (eqb (next j) i) (λ b. ap (passed j) (e j h (eqb-true (next j) i b))))

  module _ (order : UpslopeFirst n next) where
    -- a cell that points to another has an earlier turn
    earlier : (j i k : ℕ) → j < n → i < n → next j ≡ i → order.turn i < suc k → order.turn j < k
    earlier j i k hj hi e h =
        lt_of_lt_of_le
        (subst (λ (m : ℕ). order.turn j < order.turn m) e (order.after j hj (subst (λ (m : ℕ). m < n) (sym e) hi)))
        (le_of_suc-le-suc h)

    module _ (own : ℕ → ℕ) where
      settled : (k i : ℕ) → i < n → order.turn i < k
          → water_from n next passed own k i ≡ own i + arriving n next passed (water_from n next passed own k) i
      unfolding water_from
      settled zero i hi h = absurd (not-suc-le-zero h)
      settled (suc k) i hi h =
          ap (λ (x : ℕ). own i + x)
          (arriving_cong (water_from n next passed own k) (water_from n next passed own (suc k)) i
          (λ j hj e. settled k j hj (earlier j i k hj hi e h)))

      pub water_reached : (i : ℕ) → i < n
          → water n next passed own i ≡ own i + arriving n next passed (water n next passed own) i
      unfolding water
      water_reached i hi = settled n i hi (order.turned i hi)

      only : (w v : ℕ → ℕ) → ((i : ℕ) → i < n → w i ≡ own i + arriving n next passed w i)
          → ((i : ℕ) → i < n → v i ≡ own i + arriving n next passed v i) → (k i : ℕ) → i < n → order.turn i < k → w i ≡ v i
      only w v ew ev zero i hi h = absurd (not-suc-le-zero h)
      only w v ew ev (suc k) i hi h =
          ew i hi
          ∙ ap (λ (x : ℕ). own i + x) (arriving_cong w v i (λ j hj e. only w v ew ev k j hj (earlier j i k hj hi e h)))
          ∙ sym (ev i hi)

      pub water_only : (w : ℕ → ℕ) → ((i : ℕ) → i < n → w i ≡ own i + arriving n next passed w i)
          → (i : ℕ) → i < n → w i ≡ water n next passed own i
      water_only w e i hi = only w (water n next passed own) e water_reached n i hi (order.turned i hi)

  -- the outflows that point inside are what arrives
  one_way : (f : ℕ → ℕ → ℕ) (j : ℕ) → sum n (λ i. given (eqb (next j) i) (f i j)) ≡ given (ltb (next j) n) (f (next j) j)
  unfolding given
  one_way f j =
      below_or_not (next j) n (λ h. simp (lt-ltb (next j) n h) (sum_pick n (λ i. f i j) (next j) h))
      (λ h. simp (le-ltb (next j) n h) (sum_unpicked n (λ i. f i j) (next j) h))

  pub arriving_inside : (w : ℕ → ℕ)
      → sum n (arriving n next passed w) ≡ sum n (λ j. given (ltb (next j) n) (passed j (w j)))
  unfolding arriving
  arriving_inside w =
      sum_swap n n (λ i j. given (eqb (next j) i) (passed j (w j))) ∙ sum_cong n _ _ (λ j h. one_way (λ i k. passed k (w k)) j)

  -- no cell's water passes the sum of all own water: with U the cells up to i's turn, and V those before it, all that arrives in U comes from V
  module _ (order : UpslopeFirst n next) (most : (j w : ℕ) → j < n → passed j w ≤ w) (own : ℕ → ℕ) (i : ℕ) (hi : i < n) where
    abbrev in_u : ℕ → Bool
    in_u c = leb (order.turn c) (order.turn i)

    abbrev in_v : ℕ → Bool
    in_v c = ltb (order.turn c) (order.turn i)

    abbrev W : ℕ → ℕ
    W = water n next passed own

    from_V : (j : ℕ) → j < n → sum n (λ c. given (in_u c) (given (eqb (next j) c) (passed j (W j)))) ≤ given (in_v j) (W j)
    from_V j hj =
        rw (sum_cong n _ _ (λ c hc. given_comm (in_u c) (eqb (next j) c) (passed j (W j)))
        ∙ one_way (λ c k. given (in_u c) (passed k (W k))) j)
        (below_or_not (next j) n (λ h. le_trans (given_most (ltb (next j) n) _)
        (given_implied (in_u (next j)) (in_v j)
        (λ e. lt-ltb _ _ (lt_of_lt_of_le (order.after j hj h) (leb-true _ _ e)))
        (λ e. most j (W j) hj))) (λ h. simp (le-ltb (next j) n h) (unfold given in zero-le)))

    beside : (c : ℕ) → given (in_v c) (W c) + given (eqb i c) (W c) ≤ given (in_u c) (W c)
    unfolding given
    beside c =
        by_cases (eqb i c)
        (λ e. let same : order.turn i ≡ order.turn c = ap order.turn (eqb-true i c e) in
        simp (e, le-ltb (order.turn c) (order.turn i) (omega arith), le-leb (order.turn c) (order.turn i) (omega arith)) (omega arith))
        (λ e. simp e (le_trans (le_of_eq (add-zero _)) (given_implied (in_v c) (in_u c) (λ v. le-leb (order.turn c) (order.turn i) (le_of_lt (ltb-true (order.turn c) (order.turn i) v))) (λ v. le_refl _))))

    arriving_in_U : sum n (λ c. given (in_u c) (arriving n next passed W c)) ≤ sum n (λ j. given (in_v j) (W j))
    unfolding arriving
    arriving_in_U =
        rw (sum_cong n _ _ (λ c hc. sym (given_sum (in_u c) n (λ j. given (eqb (next j) c) (passed j (W j)))))
        ∙ sum_swap n n (λ c j. given (in_u c) (given (eqb (next j) c) (passed j (W j)))))
        (sum_le n _ _ from_V)

    pub water_most : W i ≤ sum n own
    water_most =
        let held : sum n (λ c. given (in_u c) (W c))
        ≡ sum n (λ c. given (in_u c) (own c)) + sum n (λ c. given (in_u c) (arriving n next passed W c))
        = sum_cong n _ _ (λ c hc. ap (given (in_u c)) (water_reached order own c hc) ∙ given_add (in_u c) (own c) _)
        ∙ sum_add n _ _ in
        let besides : sum n (λ c. given (in_v c) (W c)) + W i ≤ sum n (λ c. given (in_u c) (W c))
        = rw (← sum_pick n W i hi, ← sum_add n (λ c. given (in_v c) (W c)) (λ c. given (eqb i c) (W c)))
        (sum_le n _ _ (λ c hc. beside c)) in
        omega (arith, arriving_in_U, sum_le n (λ c. given (in_u c) (own c)) own (λ c hc. given_most (in_u c) (own c)))

-- the water rises with the cells' own water, and with what they pass on of it
module _ (n : ℕ) (next : ℕ → ℕ) (passed by : ℕ → ℕ → ℕ) (rising : (j w v : ℕ) → j < n → w ≤ v → passed j w ≤ by j v)
    (own owned : ℕ → ℕ) (more : (i : ℕ) → i < n → own i ≤ owned i) where
  rising_from : (k i : ℕ) → i < n → water_from n next passed own k i ≤ water_from n next by owned k i
  unfolding water_from arriving
  rising_from zero i h = more i h
  rising_from (suc k) i h =
      add-le-add (more i h) (sum_le n _ _ (λ j hj. given_le (eqb (next j) i) (rising j _ _ hj (rising_from k j hj))))

  pub water_rises : (i : ℕ) → i < n → water n next passed own i ≤ water n next by owned i
  unfolding water
  water_rises = rising_from n

  pub arriving_rises : (i : ℕ) → arriving n next passed (water n next passed own) i ≤ arriving n next by (water n next by owned) i
  unfolding arriving
  arriving_rises i = sum_le n _ _ (λ j hj. given_le (eqb (next j) i) (rising j _ _ hj (water_rises j hj)))

-- the water goes by the cells' own water and outflows, cell by cell
module _ (n : ℕ) (next : ℕ → ℕ) (passed by : ℕ → ℕ → ℕ) (own owned : ℕ → ℕ)
    (same : (j w : ℕ) → j < n → passed j w ≡ by j w) (alike : (i : ℕ) → i < n → own i ≡ owned i) where
  same_from : (k i : ℕ) → i < n → water_from n next passed own k i ≡ water_from n next by owned k i
  unfolding water_from arriving
  same_from zero i h = alike i h
  same_from (suc k) i h =
      ap₂ ◌+◌ (alike i h)
      (sum_cong n _ _ (λ j hj. ap (given (eqb (next j) i)) (same j _ hj ∙ ap (by j) (same_from k j hj))))

  pub water_same : (i : ℕ) → i < n → water n next passed own i ≡ water n next by owned i
  unfolding water
  water_same = same_from n

  pub arriving_same : (i : ℕ) → arriving n next passed (water n next passed own) i ≡ arriving n next by (water n next by owned) i
  unfolding arriving
  arriving_same i = sum_cong n _ _ (λ j hj. ap (given (eqb (next j) i)) (same j _ hj ∙ ap (by j) (water_same j hj)))
