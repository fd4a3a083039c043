-- A fresh state's stores, by each cell's slot.
use Rattle.std.specs.Prelude.{◌≡◌, List, ℕ, length, get_or}
use Rattle.theory.specs.Lists.{made}
use Rattle.paper.specs.State.{most_soil_of}
use Rattle.covers.specs.Slots.{cell_from}

pub record Filled (covers slots available soil snow : List ℕ) : Type 0 where
  pub soils : soil ≡ made (length available) (λ i. most_soil_of (cell_from covers (get_or slots i 0) (get_or available i 0) 0))
  pub snows : snow ≡ made (length available) (λ i. 0)
