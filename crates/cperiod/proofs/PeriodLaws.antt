-- A period's refusal is that of a fresh state, of the lists that come with the days, or of a day. So its place fits 32 bits, since these do.
use mathlib.Core.Bool.{Bool}
use mathlib.Core.List.{List}
use mathlib.Core.Path.{◌≡◌, refl, sym, subst, ◌∙◌}
use Prim.Native.Nat.{ℕ, ◌/◌, ◌<◌}
use native.Mathlib.Omega.{arith}
use lib.Dec.{ltb}
use lib.IntN.{ℤ}
use lib.ListN.{length}
use Rattle.theory.proofs.Cases.{by_cases, cond_true, cond_false}
use Rattle.paper.specs.Setup.{Setup, cells, grid_fits}
use Rattle.paper.specs.Refusals.{Verdict, accepted, refused, place_of, verdict_place}
use Rattle.paper.specs.Day.{fresh_of}
use Rattle.paper.specs.Period.{outcome_on}
use Rattle.records.specs.Verdicts.{verdict_as}
use Rattle.recharge.specs.Period.{lists_fit, opening, verdict_at, Periods}
use Rattle.recharge.specs.declared.periods.Ended.{Ended}
use Rattle.recharge.proofs.OpeningLaws.{grid_refuses, lists_refuse, opens_as}
use Rattle.clib.specs.Narrow.{narrow}
use Rattle.clib.proofs.HandedLaws.{fresh_near, day_placed}

abbrev Small : Verdict → Type 0
Small v = verdict_place v < narrow

module _ (s : Setup) where
  opening_near : (soil snow : List ℕ) (lists : Bool) → Small (opening s soil snow lists)
  unfolding verdict_place place_of
  opening_near soil snow lists =
      by_cases (grid_fits s.grid)
      (λ g. by_cases lists
      (λ fit. rw (opens_as s soil snow lists fit (fresh_of s soil snow) refl) (fresh_near s soil snow refl))
      (λ short. rw (lists_refuse s soil snow lists g short) (omega arith)))
      (λ g. rw (grid_refuses s soil snow lists g) (omega arith))

  day_near : (ns : List ℤ) (k : ℕ) → Small (verdict_at s ns k)
  unfolding verdict_at outcome_on verdict_place
  day_near ns k =
      by_cases (ltb k (length ns / 7))
      (λ e. rw (cond_true (ltb k (length ns / 7)) e) (day_placed s _ _ _ refl))
      (λ e. rw (cond_false (ltb k (length ns / 7)) e) (omega arith))

  pub period_near : (ns : List ℤ) (soil₀ snow₀ sums₀ totals₀ : List ℕ) (r : Ended) (soil snow sums totals : List ℕ)
      → Periods s ns soil₀ snow₀ sums₀ totals₀ r soil snow sums totals → Small (verdict_as r.verdict)
  period_near ns soil₀ snow₀ sums₀ totals₀ r soil snow sums totals p = go (opening s soil₀ snow₀ lists) refl
    where
      lists : Bool
      lists = lists_fit (cells s) (length ns) (length sums₀) (length totals₀)

      go : (v : Verdict) → opening s soil₀ snow₀ lists ≡ v → Small (verdict_as r.verdict)
      go accepted e = rw (p.went e).verdict_is (day_near ns r.days)
      go (refused why) e = rw ((p.unbegun why e).verdict_is ∙ sym e) (opening_near soil₀ snow₀ lists)

-- what the library is handed is what C handed over
pub period_handed : (s t : Setup) → t ≡ s → (ns : List ℤ) (soil₀ snow₀ sums₀ totals₀ : List ℕ) (r : Ended) (soil snow sums totals : List ℕ)
    → Periods t ns soil₀ snow₀ sums₀ totals₀ r soil snow sums totals → Periods s ns soil₀ snow₀ sums₀ totals₀ r soil snow sums totals
period_handed s t same ns soil₀ snow₀ sums₀ totals₀ r soil snow sums totals p =
    subst (λ (u : Setup). Periods u ns soil₀ snow₀ sums₀ totals₀ r soil snow sums totals) same p
