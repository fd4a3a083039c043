-- Test 10 by slots: a search over the stores finds the lowest that the snowfall would take past its limit.
use mathlib.Core.Path.{◌≡◌, sym, ap}
use mathlib.Core.Bool.{true}
use mathlib.Core.List.{List, []}
use Prim.Native.Nat.{ℕ, ◌≤◌, ◌<◌, min}
use lib.ListN.{length}
use Rattle.theory.proofs.LowestLaws.{at_lowest, none_lowest}
use native.Mathlib.Nat.{lt_of_lt_of_le}
use Rattle.paper.specs.Refusals.{verdict}
use Rattle.paper.proofs.RefusalLaws.{pass_many, fail_many}
use Rattle.records.specs.Verdicts.{verdict_in}
use Rattle.std.specs.Prelude.{Ok, Err}
use Rattle.records.specs.declared.verdicts.Refusal.TheVariants.{Snowfall}
use Rattle.records.proofs.PlaceLaws.{PassedTo}
use Rattle.stores.specs.Snowfall.{deep_by, snow_tests}

module _ (plots slots snow : List ℕ) (i : ℕ) (passed : PassedTo (deep_by plots slots snow) i) where
  pub deep_found : i < min (length snow) 4096 → deep_by plots slots snow i ≡ true
      → Err (Snowfall i) ≡ verdict_in (verdict (snow_tests plots slots snow))
  unfolding snow_tests
  deep_found h t = sym (ap verdict_in (fail_many [] _ i (at_lowest _ _ i h t passed)))

  pub none_deep : min (length snow) 4096 ≤ i → (Ok tt) ≡ verdict_in (verdict (snow_tests plots slots snow))
  unfolding snow_tests verdict
  none_deep h = sym (ap verdict_in (pass_many [] _ (none_lowest _ _ (λ j l. passed j (lt_of_lt_of_le l h)))))
