-- The estimates from radiation worked out apart, as one table that computes: each limit with the value next to it, what is not a number, and the steps to the
-- last bit of their binary64 (m and e of m × 2 ^ e), for readings at which another constant, order or rounding would show. So a slip in a definition shows here.
use mathlib.Core.Path.{◌≡◌, refl}
use mathlib.Core.Bool.{true, false}
use mathlib.Core.List.{List, [], ◌∷◌}
use Prim.Native.Nat.{ℕ}
use lib.Count.{count_trailing_zeros}
use lib.IntN.{pos, negsuc}
use lib.Ieee.{Float, nan, inf, fin, span, climb, size, odd, units, round, neg, sum, add, sub, mul, div, lt, eq, le}
use Rattle.paper.specs.Radiation.{
  decimal,
  whole,
  Estimate,
  turc,
  jensen_haise,
  between,
  mean_fits,
  radiation_fits,
  humidity_fits,
  estimate_fits,
  weather_fits,
  humid,
  dryness,
  turc_of,
  jensen_haise_by,
  jensen_haise_of,
  millimetres,
  units_of,
  floor_of,
  potential_of,
  estimate_number,
  estimate_place,
  estimate_units,
  estimated_of,
}

-- zero, zero with a sign, and the smallest value below zero
abbrev zero : Float
zero = fin false 0 (pos 0)

abbrev minus_zero : Float
minus_zero = fin true 0 (pos 0)

abbrev just_below_zero : Float
just_below_zero = fin true 1 (negsuc 1073)

-- 60, 1,000 and 100 and their last bit
abbrev past60 : Float
past60 = fin false 8444249301319681 (negsuc 46)

abbrev past1000 : Float
past1000 = fin false 8796093022208001 (negsuc 42)

abbrev past100 : Float
past100 = fin false 7036874417766401 (negsuc 45)

-- what comes back: number, place and estimate
abbrev answer : Float → Estimate → List ℕ
answer t e =
    let r = estimated_of (record { mean = t; estimate = e }) in
    estimate_number r ∷ estimate_place r ∷ estimate_units r ∷ []

pub record RadiationFigures : Type 0 where
  -- a decimal is rounded to the nearest, once; a whole number is exact
  pub tenth : decimal 1 10 ≡ fin false 3602879701896397 (negsuc 54)
  pub wholes : whole 0 ∷ whole 1 ∷ whole 60 ∷ [] ≡ zero ∷ fin false 1 (pos 0) ∷ fin false 15 (pos 2) ∷ []
  -- the limits, both ends counted
  pub means : mean_fits (whole 60) ∷ mean_fits (neg (whole 60)) ∷ mean_fits minus_zero ∷ mean_fits (whole 59) ∷ [] ≡ true ∷ true ∷ true ∷ true ∷ []
  pub no_means : mean_fits past60 ∷ mean_fits (neg past60) ∷ mean_fits nan ∷ mean_fits (inf true) ∷ mean_fits (inf false) ∷ [] ≡ false ∷ false ∷ false ∷ false ∷ false ∷ []
  pub radiations : radiation_fits (whole 0) ∷ radiation_fits minus_zero ∷ radiation_fits (whole 1000) ∷ [] ≡ true ∷ true ∷ true ∷ []
  pub no_radiations :
      radiation_fits just_below_zero ∷ radiation_fits past1000 ∷ radiation_fits nan ∷ radiation_fits (inf true) ∷ radiation_fits (inf false) ∷ []
      ≡ false ∷ false ∷ false ∷ false ∷ false ∷ []
  pub humidities : humidity_fits (whole 0) ∷ humidity_fits minus_zero ∷ humidity_fits (whole 100) ∷ [] ≡ true ∷ true ∷ true ∷ []
  pub no_humidities :
      humidity_fits just_below_zero ∷ humidity_fits past100 ∷ humidity_fits nan ∷ humidity_fits (inf true) ∷ humidity_fits (inf false) ∷ []
      ≡ false ∷ false ∷ false ∷ false ∷ false ∷ []
  -- Turc of 2.3 degrees, R 540 and H 30: the humid part, the factor and both
  pub humid_part : humid (decimal 23 10) (whole 540) ≡ fin false 4592370001528491 (negsuc 51)
  pub factor : dryness (whole 30) ≡ fin false 1447585594511945 (negsuc 49)
  pub dry : turc_of (decimal 23 10) (whole 540) (whole 30) ≡ fin false 1476118929062729 (negsuc 49)
  -- the factor counts below 50 and not at 50, at which it is 1
  pub moist : turc_of (decimal 23 10) (whole 540) (whole 50) ∷ turc_of (decimal 23 10) (whole 540) (whole 100) ∷ [] ≡ fin false 4592370001528491 (negsuc 51) ∷ fin false 4592370001528491 (negsuc 51) ∷ []
  pub driest : turc_of (decimal 23 10) (whole 540) (whole 0) ≡ fin false 7872634288334557 (negsuc 51)
  pub at_49 : turc_of (decimal 23 10) (whole 540) (whole 49) ≡ fin false 1164493821816153 (negsuc 49)
  -- nothing at 0 degrees, with or without a sign, nor below
  pub frozen : turc_of (whole 0) (whole 540) (whole 30) ∷ turc_of minus_zero (whole 540) (whole 30) ∷ turc_of (neg (whole 10)) (whole 540) (whole 30) ∷ [] ≡ zero ∷ zero ∷ zero ∷ []
  -- Jensen-Haise of -3.0 degrees and R 170; of 0 degrees and R 59; and what would be below zero
  pub cool : jensen_haise_of (neg (whole 3)) (whole 170) ≡ fin false 8304943041659475 (negsuc 58)
  pub at_zero : jensen_haise_of (whole 0) (whole 59) ≡ fin false 5764607523034235 (negsuc 55)
  pub below_zero : jensen_haise_by (neg (whole 4)) (whole 59) ≡ fin true 1441151880758559 (negsuc 55)
  pub cold : jensen_haise_of (neg (whole 4)) (whole 59) ≡ zero
  -- without radiation it is a zero with a sign below -3.2 degrees, which is not below zero
  pub dark : jensen_haise_of (neg (whole 4)) (whole 0) ≡ minus_zero
  -- units of 0.69 mm; 0.05334 mm are 21 units, and divided first they would be 20
  pub unit : units_of (decimal 69 100) ≡ fin false 4778979673483087 (negsuc 43)
  pub whole_units : floor_of (units_of (decimal 5334 100000)) ≡ 21
  -- the whole number not above
  pub floors :
      floor_of (fin false 7 (negsuc 1)) ∷ floor_of (fin false 3 (pos 0)) ∷ floor_of (fin false 3 (pos 1)) ∷ floor_of minus_zero ∷ floor_of (fin true 5 (pos 0)) ∷ floor_of nan ∷ floor_of (inf false) ∷ []
      ≡ 1 ∷ 3 ∷ 6 ∷ 0 ∷ 0 ∷ 0 ∷ 0 ∷ []
  -- all of it: 0.6 degrees and R 77 are 25 units, and 24 in another order; the largest of each; and the refusals
  pub order : answer (decimal 6 10) (turc (whole 77) (whole 60)) ≡ 0 ∷ 0 ∷ 25 ∷ []
  pub summer : answer (whole 20) (turc (whole 500) (whole 60)) ≡ 0 ∷ 0 ∷ 1608 ∷ []
  pub most_turc : answer (whole 60) (turc (whole 1000) (whole 0)) ≡ 0 ∷ 0 ∷ 7370 ∷ []
  pub most_jensen_haise : answer (whole 60) (jensen_haise (whole 1000)) ≡ 0 ∷ 0 ∷ 10543 ∷ []
  pub dark_day : answer (neg (whole 4)) (jensen_haise (whole 0)) ≡ 0 ∷ 0 ∷ 0 ∷ []
  pub bad_mean : answer past60 (jensen_haise (whole 1000)) ≡ 13 ∷ 0 ∷ 0 ∷ []
  pub bad_radiation : answer (whole 60) (jensen_haise past1000) ≡ 13 ∷ 0 ∷ 0 ∷ []
  pub bad_radiation_turc : answer (whole 60) (turc past1000 (whole 0)) ≡ 13 ∷ 0 ∷ 0 ∷ []
  pub bad_humidity : answer (whole 60) (turc (whole 1000) past100) ≡ 13 ∷ 0 ∷ 0 ∷ []

pub radiation_figures : RadiationFigures
unfolding span climb size count_trailing_zeros odd units round neg sum add sub mul div lt eq le decimal whole between mean_fits radiation_fits humidity_fits estimate_fits weather_fits humid dryness turc_of jensen_haise_by jensen_haise_of millimetres units_of floor_of potential_of estimate_number estimate_place estimate_units estimated_of
radiation_figures =
    record {
      tenth = refl;
      wholes = refl;
      means = refl;
      no_means = refl;
      radiations = refl;
      no_radiations = refl;
      humidities = refl;
      no_humidities = refl;
      humid_part = refl;
      factor = refl;
      dry = refl;
      moist = refl;
      driest = refl;
      at_49 = refl;
      frozen = refl;
      cool = refl;
      at_zero = refl;
      below_zero = refl;
      cold = refl;
      dark = refl;
      unit = refl;
      whole_units = refl;
      floors = refl;
      order = refl;
      summer = refl;
      most_turc = refl;
      most_jensen_haise = refl;
      dark_day = refl;
      bad_mean = refl;
      bad_radiation = refl;
      bad_radiation_turc = refl;
      bad_humidity = refl;
    }
