-- The starred figures of document 01 and, of melt, those of M-100 in document 02, as one table: each is computed from the rule that it
-- belongs to.
use mathlib.Core.Path.{◌≡◌, refl}
use mathlib.Core.Bool.{true, false}
use lib.IntN.{pos}
use Rattle.paper.specs.Snow.{falls_as_snow, above_freezing, meltable}
use Rattle.paper.specs.CurveNumber.{I, II, III, class, condition_of, nearest, curve_number}
use Rattle.paper.specs.Runoff.{beyond_abstraction, spread, runoff}
use Rattle.paper.specs.Retention.{F, between, L, loss}

pub record Starred : Type 0 where
  -- condition I of 75 is 57, III is 88; of 30: 16 and 50; 100 stays 100
  pub 75-dry : curve_number I 75 ≡ 57
  pub 75-wet : curve_number III 75 ≡ 88
  pub 30-dry : curve_number I 30 ≡ 16
  pub 30-wet : curve_number III 30 ≡ 50
  pub 100-dry : curve_number I 100 ≡ 100
  pub 100-wet : curve_number III 100 ≡ 100
  -- runoff for c and w
  pub 100-of-1234 : runoff 100 1234 ≡ 1234
  pub 80-of-50000 : runoff 80 50000 ≡ 28928
  pub 75-of-6667 : runoff 75 6667 ≡ 0
  pub 75-of-6667-a : beyond_abstraction 75 6667 ≡ 25
  pub 57-of-30000 : runoff 57 30000 ≡ 2461
  -- the condition by the growing season's five-day sum
  pub sum_14000 : condition_of true 14000 ≡ II
  pub sum_13999 : condition_of true 13999 ≡ I
  pub sum_21000 : condition_of true 21000 ≡ II
  pub sum_21001 : condition_of true 21001 ≡ III
  -- mean 360, span 280 to 400: snow; mean 361: rain
  pub mean_360 : falls_as_snow (pos 280) (pos 360) (pos 400) ≡ true
  pub mean_361 : falls_as_snow (pos 280) (pos 361) (pos 400) ≡ false
  -- the melt by the maximum, in millimetres; 1,500 is the highest that a day can have
  pub melt_320 : meltable (pos 320) ≡ 0
  pub melt_321 : meltable (pos 321) ≡ 32
  pub melt_500 : meltable (pos 500) ≡ 5905
  pub melt_1500 : meltable (pos 1500) ≡ 38713
  -- F
  pub F_10 : F 10 ≡ 1008332
  pub F_11 : F 11 ≡ 1004394
  -- C and soil 50,000, d 2,000
  pub loss_2000 : loss 50000 50000 2000 ≡ 1964

pub starred : Starred
unfolding
    falls_as_snow
    above_freezing
    meltable
    class
    condition_of
    nearest
    curve_number
    beyond_abstraction
    spread
    runoff
    F
    between
    L
    loss
starred =
    record {
      75-dry = refl;
      75-wet = refl;
      30-dry = refl;
      30-wet = refl;
      100-dry = refl;
      100-wet = refl;
      100-of-1234 = refl;
      80-of-50000 = refl;
      75-of-6667 = refl;
      75-of-6667-a = refl;
      57-of-30000 = refl;
      sum_14000 = refl;
      sum_13999 = refl;
      sum_21000 = refl;
      sum_21001 = refl;
      mean_360 = refl;
      mean_361 = refl;
      melt_320 = refl;
      melt_321 = refl;
      melt_500 = refl;
      melt_1500 = refl;
      F_10 = refl;
      F_11 = refl;
      loss_2000 = refl;
    }
