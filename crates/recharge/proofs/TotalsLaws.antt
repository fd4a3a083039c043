-- The totals of the cells passed: one cell more is one figure more in each, no total of 4,096 cells passes 64 bits, and the order of the cells has no say.
use mathlib.Core.Path.{◌≡◌}
use mathlib.Core.Bool.{Bool}
use Prim.Native.Nat.{ℕ, ◌+◌, ◌*◌, ◌≤◌, ◌<◌}
use native.Mathlib.Numerals.{add-one}
use native.Mathlib.Omega.{arith}
use Rattle.theory.specs.Sums.{sum, given}
use Rattle.theory.specs.Ways.{UpslopeFirst}
use Rattle.theory.proofs.AlongLaws.{sum_along}
use Rattle.theory.proofs.SumLaws.{sum_most, given_most}
use Rattle.paper.specs.Limits.{most_gross}
use Rattle.paper.specs.CellDay.{Figures}
use Rattle.paper.specs.Day as paper
use Rattle.recharge.specs.Depths.{past32}
use Rattle.recharge.specs.CellDay.{Fit32}
use Rattle.recharge.specs.Totals.{with_cell, totals_by, Room}

module _ (gross : ℕ) (figure : ℕ → Figures) (closed? gone? : ℕ → Bool) where
  one_more_lem : (i : ℕ) → with_cell (totals_by i gross figure closed? gone?) gross (figure i) (given (closed? i) (figure i).rejected) (given (gone? i) (figure i).outflow)
      ≡ totals_by (i + 1) gross figure closed? gone?
  unfolding with_cell totals_by sum
  one_more_lem i = rw (add-one i)

  pub with_one : (i left gone : ℕ) (totals : paper.Totals) (r : Figures) → totals ≡ totals_by i gross figure closed? gone? → r ≡ figure i
      → left ≡ given (closed? i) r.rejected → gone ≡ given (gone? i) r.outflow
      → with_cell totals gross r left gone ≡ totals_by (i + 1) gross figure closed? gone?
  with_one i left gone totals r so_far e l g = rw (l, g, so_far, e) (one_more_lem i)

  pub sums_room : (i : ℕ) → i ≤ 4096 → gross ≤ most_gross → ((k : ℕ) → k < i → Fit32 (figure k)) → Room (totals_by i gross figure closed? gone?)
  unfolding totals_by
  sums_room i few g small =
      record {
        gross = omega (arith, sum_most i (λ k. gross) 400000 (λ k l. g));
        intercepted = omega (arith, sum_most i (λ k. (figure k).intercepted) past32 (λ k l. omega (arith, (small k l).intercepted)));
        evapotranspired = omega (arith, sum_most i (λ k. (figure k).evapotranspired) past32 (λ k l. omega (arith, (small k l).evapotranspired)));
        recharged = omega (arith, sum_most i (λ k. (figure k).recharged) past32 (λ k l. omega (arith, (small k l).recharged)));
        rejected =
            omega (
              arith,
              sum_most i (λ k. given (closed? k) (figure k).rejected) past32
                  (λ k l. omega (arith, (small k l).rejected, given_most (closed? k) (figure k).rejected)),
            );
        gone =
            omega (
              arith,
              sum_most i (λ k. given (gone? k) (figure k).outflow) past32
                  (λ k l. omega (arith, (small k l).outflow, given_most (gone? k) (figure k).outflow)),
            );
        stored =
            omega (arith, sum_most i (λ k. (figure k).soil + (figure k).snow) (2 * past32) (λ k l. omega (arith, (small k l).soil, (small k l).snow)));
      }

  -- in whatever order the cells come
  pub totals_along : {n : ℕ} {next : ℕ → ℕ} (order : UpslopeFirst n next)
      → totals_by n gross (λ u. figure (order.who u)) (λ u. closed? (order.who u)) (λ u. gone? (order.who u)) ≡ totals_by n gross figure closed? gone?
  unfolding totals_by
  totals_along {n} order =
      λ k. record {
        gross = sum n (λ i. gross);
        intercepted = sum_along order (λ i. (figure i).intercepted) k;
        evapotranspired = sum_along order (λ i. (figure i).evapotranspired) k;
        recharged = sum_along order (λ i. (figure i).recharged) k;
        rejected = sum_along order (λ i. given (closed? i) (figure i).rejected) k;
        gone = sum_along order (λ i. given (gone? i) (figure i).outflow) k;
        stored = sum_along order (λ i. (figure i).soil + (figure i).snow) k;
      }
