-- Rules 7 and 8: what infiltration n and potential evapotranspiration E do to a soil of capacity C, with the cover's largest recharge.
use Rattle.std.specs.Prelude.{cond, ℕ, ◌+◌, ◌-◌, min, leb}
use Rattle.paper.specs.Retention.{loss}

pub record SoilDay : Type 0 where
  pub evapotranspired : ℕ
  pub recharged : ℕ
  pub rejected : ℕ
  pub soil : ℕ

-- soil + n - E less the capacity
unfoldable pub excess : ℕ → ℕ → ℕ → ℕ → ℕ
excess C soil n E = soil + n - E - C

-- rule 7, n ≥ E
unfoldable pub wet_day : ℕ → ℕ → ℕ → ℕ → ℕ → SoilDay
wet_day C largest soil n E =
    record {
      evapotranspired = E;
      recharged = min (excess C soil n E) largest;
      rejected = excess C soil n E - largest;
      soil = min (soil + n - E) C;
    }

-- rule 8, n < E
unfoldable pub dry_day : ℕ → ℕ → ℕ → ℕ → SoilDay
dry_day C soil n E =
    record {
      evapotranspired = n + loss C soil (E - n);
      recharged = 0;
      rejected = 0;
      soil = soil - loss C soil (E - n);
    }

unfoldable pub soil_day : ℕ → ℕ → ℕ → ℕ → ℕ → SoilDay
soil_day C largest soil n E = cond (leb E n) (wet_day C largest soil n E) (dry_day C soil n E)
