-- What the steps of `estimates::potential` come to: the units of readings within their limits can be cut to 64 bits, and the number cut is the paper's.
use Rattle.std.proofs.Common.{◌≡◌, ℕ, ◌≤◌, true, sym, ap, ◌∙◌, subst}
use lib.Ieee.{Float, to_unsigned}
use Rattle.paper.specs.Radiation.{Weather, Estimated, estimated, weather_fits, millimetres, units_of, potential_of, estimate_units, estimated_of}
use Rattle.paper.proofs.RadiationLaws.{Cut, estimate_cut, estimated_fitting, never_passes}

module _ (w : Weather) (mm units : Float) (fits : weather_fits w ≡ true) (is_mm : mm ≡ millimetres w.mean w.estimate) (is_units : units ≡ units_of mm) where
  pub steps_cut : Cut units
  steps_cut = subst Cut (sym (is_units ∙ ap units_of is_mm)) (estimate_cut w fits)

  pub steps_estimated : (n : ℕ) → n ≡ to_unsigned 64 units → estimated n ≡ estimated_of w
  unfolding potential_of
  steps_estimated n is_n =
      ap estimated (is_n ∙ ap (to_unsigned 64) (is_units ∙ ap units_of is_mm) ∙ (estimate_cut w fits).floor) ∙ sym (estimated_fitting w fits)

pub not_past : (w : Weather) (e : Estimated) → e ≡ estimated_of w → estimate_units e ≤ 20000
not_past w e is = subst (λ (e : Estimated). estimate_units e ≤ 20000) (sym is) (never_passes w)
