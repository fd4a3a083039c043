-- Rules 7 and 8 as one day: the account of the soil's water, its limits, and that more soil water or more infiltration makes no figure smaller.
-- Where both days are of one rule, each figure is a sum of rising ones; from a day n < E to one of n' ≥ E, evapotranspiration rises to E, which a loss of at most E - n does not pass.
use mathlib.Core.Path.{◌≡◌}
use Prim.Native.Nat.{ℕ, ◌+◌, ◌-◌, ◌≤◌, ◌<◌}
use native.Mathlib.Nat.{sub-le-sub_left}
use native.Mathlib.Decide.{dec_le}
use native.Mathlib.Omega.{arith}
use borrow.Author.Tests.{le-leb, lt-leb}
use Rattle.paper.specs.Soil.{SoilDay, excess, wet_day, dry_day, soil_day}
use Rattle.paper.proofs.RetentionLaws.{loss_soil, loss_potential, loss_rises_soil, loss_rises_d, left_rises, evaporation_rises}

pub rule_7 : (C largest soil n E : ℕ) → E ≤ n → soil_day C largest soil n E ≡ wet_day C largest soil n E
unfolding soil_day
rule_7 C largest soil n E h = rw (le-leb E n h)

pub rule_8 : (C largest soil n E : ℕ) → n < E → soil_day C largest soil n E ≡ dry_day C soil n E
unfolding soil_day
rule_8 C largest soil n E h = rw (lt-leb E n h)

-- what holds under either rule holds of the day
pub by_rule : (C largest soil n E : ℕ) (P : SoilDay → Type 0) → (E ≤ n → P (wet_day C largest soil n E)) → (n < E → P (dry_day C soil n E)) → P (soil_day C largest soil n E)
by_rule C largest soil n E P wet dry = go (dec_le E n)
  where
    go : Dec (E ≤ n) → P (soil_day C largest soil n E)
    go (yes h) = rw (rule_7 C largest soil n E h) (wet h)
    go (no h) = let less : n < E = omega arith in rw (rule_8 C largest soil n E less) (dry less)

module _ (C largest soil n E : ℕ) where
  pub soil_account : soil + n ≡ (soil_day C largest soil n E).evapotranspired + (soil_day C largest soil n E).recharged + (soil_day C largest soil n E).rejected + (soil_day C largest soil n E).soil
  unfolding wet_day dry_day excess
  soil_account =
      by_rule C largest soil n E (λ r. soil + n ≡ r.evapotranspired + r.recharged + r.rejected + r.soil)
      (λ h. omega arith)
      (λ h. omega (arith, loss_soil C soil (E - n)))

  pub soil_limit : soil ≤ C → (soil_day C largest soil n E).soil ≤ C
  unfolding wet_day dry_day
  soil_limit p = by_rule C largest soil n E (λ r. r.soil ≤ C) (λ h. omega arith) (λ h. omega arith)

  pub rejected_most : soil ≤ C → (soil_day C largest soil n E).rejected ≤ n
  unfolding wet_day dry_day excess
  rejected_most p = by_rule C largest soil n E (λ r. r.rejected ≤ n) (λ h. omega arith) (λ h. omega arith)

pub record NoSmaller (a b : SoilDay) : Type 0 where
  pub evapotranspired : a.evapotranspired ≤ b.evapotranspired
  pub recharged : a.recharged ≤ b.recharged
  pub rejected : a.rejected ≤ b.rejected
  pub soil : a.soil ≤ b.soil

pub soil_rises : (C largest soil soil' n n' E : ℕ) → soil ≤ soil' → soil' ≤ C → n ≤ n' → NoSmaller (soil_day C largest soil n E) (soil_day C largest soil' n' E)
unfolding wet_day dry_day excess
soil_rises C largest soil soil' n n' E p q h = by_rule C largest soil n E (λ r. NoSmaller r (soil_day C largest soil' n' E)) wet dry
  where
    wet : E ≤ n → NoSmaller (wet_day C largest soil n E) (soil_day C largest soil' n' E)
    wet e = rw (rule_7 C largest soil' n' E (omega arith)) (omega arith)

    dry : n < E → NoSmaller (dry_day C soil n E) (soil_day C largest soil' n' E)
    dry e =
        by_rule C largest soil' n' E (λ r. NoSmaller (dry_day C soil n E) r)
        (λ e'. omega (arith, loss_potential C soil (E - n) (omega arith)))
        (λ e'. omega (arith, evaporation_rises C soil E n n' (omega arith) h (omega arith), loss_rises_soil C (E - n') p, left_rises C (E - n') p, loss_rises_d C soil (sub-le-sub_left h E)))
