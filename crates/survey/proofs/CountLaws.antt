-- The counts that the peeling starts from: each entry of the array has 8192 for every cell that leads there, one more with each cell that is laid.
use mathlib.Core.Path.{◌≡◌, sym, ap, ◌∙◌, subst}
use mathlib.Core.List.{List}
use Prim.Native.Nat.{ℕ, ◌+◌, ◌≤◌, ◌<◌}
use native.Mathlib.Numerals.{add-one}
use native.Mathlib.Omega.{arith}
use lib.Dec.{eqb}
use lib.ListN.{length, get_or, set, length-set}
use lib.Seq.{get_or-set_same, get_or-set_other}
use borrow.Author.Tests.{eqb-true, eqb-false, lt-ltb, le-ltb}
use Rattle.theory.specs.Lists.{made_over}
use Rattle.theory.specs.Sums.{sum, given}
use Rattle.theory.specs.Ways.{OneWay}
use Rattle.theory.proofs.Cases.{by_cases, below_or_not}
use Rattle.theory.proofs.ListLaws.{over_length}
use Rattle.theory.proofs.SumLaws.{sum_cong, sum_most, given_most}
use Rattle.survey.specs.Charts.{next_as, WaysFit}
use Rattle.survey.specs.Order.{leading, waits, queued, wait_for, Counted, Blank}
use Rattle.theory.proofs.ListLaws.{over_at, in_range}
use Rattle.theory.proofs.SumLaws.{one_more_lem, no_places}
use Rattle.survey.proofs.OrderLaws.{leads, elsewhere}

module _ {n : ℕ} {ways : List ℕ} (w : WaysFit n ways) where
  pub way_next : (i : ℕ) → i < n → get_or ways i 0 ≡ next_as n ways i
  unfolding next_as
  way_next i h = rw (lt-ltb i n h) (in_range ways i 0 4097 (omega (arith, w.most, w.sized)))

  pub one_way : OneWay n (next_as n ways)
  unfolding next_as
  one_way = record { outside = λ i h. rw (le-ltb i n h) (omega (arith, w.most)) }

-- the ways written over an array are the rule's, where the rule too leads nowhere past the cells: what the array held there is never read
pub ways_next : (n : ℕ) (f : ℕ → ℕ) (before : List ℕ) → ((i : ℕ) → n ≤ i → f i ≡ 4097) → next_as n (made_over n f before) ≡ f
unfolding next_as
ways_next n f before none = λ k i. points i k
  where
    points : (i : ℕ) → next_as n (made_over n f before) i ≡ f i
    points i = below_or_not i n (λ h. rw (lt-ltb i n h) (over_at n f before 4097 i h)) (λ h. rw (le-ltb i n h) (sym (none i h)))

module _ {n : ℕ} {next : ℕ → ℕ} where
  pub count_none : (l : List ℕ) → length l ≡ 4096 → n ≤ 4096 → Counted n next 0 (made_over n (λ i. 0) l)
  count_none l sized most =
      record {
        sized = over_length {A = ℕ} n _ l (omega (arith, sized)) ∙ sized;
        counts = λ i h. omega (arith, over_at n (λ k. 0) l 0 i h, no_places (leading next i));
      }

  module _ {k : ℕ} {l : List ℕ} (c : Counted n next k l) where
    pub count_fits : k ≤ 4096 → (i : ℕ) → i < n → get_or l i 0 ≤ 33554432
    count_fits h i a = omega (arith, c.counts i a, sum_most k (leading next i) 1 (λ j _. unfold leading in given_most (eqb (next j) i) 1))

    count_outside : n ≤ next k → Counted n next (k + 1) l
    count_outside h =
        record {
          sized = c.sized;
          counts = λ i a. rw add-one (omega (arith, c.counts i a, one_more_lem k (leading next i), elsewhere next i k (λ e. omega arith)));
        }

    count_inside : (j : ℕ) → next k ≡ j → j < n → n ≤ 4096 → Counted n next (k + 1) (set l j (get_or l j 0 + 8192))
    count_inside j e h m =
        record {
          sized = length-set l j (get_or l j 0 + 8192) ∙ c.sized;
          counts = λ i a.
              rw add-one
              (by_cases (eqb j i)
              (λ p. let same : j ≡ i = eqb-true j i p in
              omega (
                arith,
                subst (λ (x : ℕ). get_or (set l j (get_or l j 0 + 8192)) x 0 ≡ get_or l j 0 + 8192) same
                    (get_or-set_same l j (get_or l j 0 + 8192) 0 (omega (arith, c.sized))),
                ap (λ (x : ℕ). get_or l x 0) same,
                c.counts i a,
                one_more_lem k (leading next i),
                leads next i k (e ∙ same),
              ))
              (λ p. omega (
                arith,
                get_or-set_other l j i (get_or l j 0 + 8192) 0 (λ s. eqb-false j i p (sym s)),
                c.counts i a,
                one_more_lem k (leading next i),
                elsewhere next i k (λ s. eqb-false j i p (sym e ∙ s)),
              )));
        }

    -- cell k's way is counted, inside or out
    pub count_one : (way : ℕ) → next k ≡ way → n ≤ 4096 → Counted n next (k + 1) (wait_for n way l)
    unfolding wait_for
    count_one way e m =
        below_or_not way n (λ h. rw (lt-ltb way n h) (count_inside way e h m)) (λ h. rw (le-ltb way n h) (count_outside (omega (arith, e))))

    -- the counts are the same by a rule that agrees below k
    pub count_by : (rule : ℕ → ℕ) → ((j : ℕ) → j < k → rule j ≡ next j) → Counted n rule k l
    unfolding leading
    count_by rule same =
        record {
          sized = c.sized;
          counts = λ i a.
              omega (arith, c.counts i a, sum_cong k (leading rule i) (leading next i) (λ j h. ap (λ (x : ℕ). given (eqb x i) 1) (same j h)));
        }

  pub counted_blank : {l : List ℕ} → Counted n next n l → n ≤ 4096 → Blank n l
  unfolding waits queued
  counted_blank c m =
      record { most = m; sized = c.sized; few = λ t h. omega (arith, count_fits c m t h); blank = λ t h. omega (arith, c.counts t h) }

  pub counted_waits : {l : List ℕ} → Counted n next n l → (i : ℕ) → i < n → waits l i ≡ sum n (leading next i)
  unfolding waits
  counted_waits c i h = omega (arith, c.counts i h)
