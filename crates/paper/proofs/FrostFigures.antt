-- Frozen ground worked by hand, as one table that computes: single steps of the index, a winter and its thaw day by day, and the condition that a
-- day counts as, by the index that it has just set.
use mathlib.Core.Path.{◌≡◌, refl}
use mathlib.Core.List.{List, [], ◌∷◌}
use Prim.Native.Nat.{ℕ, ◌-◌}
use lib.IntN.{ℤ, pos, negsuc}
use lib.ListN.{replicate}
use Rattle.paper.specs.Setup.{Setpoints, growing}
use Rattle.paper.specs.State.{none, five_days}
use Rattle.paper.specs.Snow.{falls_as_snow, above_freezing, meltable}
use Rattle.paper.specs.CurveNumber.{Condition, I, II, III, class, condition_of}
use Rattle.paper.specs.Frost.{floor, or_zero, frost_after, not_dry, counted}
use Rattle.paper.specs.CellDay.{today}

-- the index after each of some days, by their means
unfoldable pub indexes : ℕ → List ℤ → List ℕ
indexes index [] = []
indexes index (mean ∷ means) = frost_after index mean ∷ indexes (frost_after index mean) means

-- the setpoints of `balance`
abbrev setpoints : Setpoints
setpoints = record { first = 56000; second = 83000 }

abbrev counts : ℕ → List Condition
counts index = counted setpoints index I ∷ counted setpoints index II ∷ counted setpoints index III ∷ []

-- a dormant day of some mean, after five days with some rain on each: 0 is dry, 2,000 average, 3,000 wet
abbrev dormant : ℕ → ℕ → ℤ → Condition
dormant index rain mean =
    (today (record { season = record { first = 120; last = 270 }; setpoints = setpoints })
    (record {
      memory = record { oldest = rain; fourth = rain; third = rain; second = rain; yesterday = rain };
      last = none;
      frost = index;
    })
    (record { serial = 1; day_of_year = 70; gross = 0; minimum = mean; mean = mean; maximum = mean; potential = 0 })).condition

pub record FrostFigures : Type 0 where
  -- floors go down, also below zero: floor(-55.6) is -56
  pub floors : floor (negsuc 999) 18 ∷ floor (pos 1000) 18 ∷ floor (negsuc 17) 18 ∷ floor (negsuc 18) 18 ∷ [] ≡ negsuc 55 ∷ pos 55 ∷ negsuc 0 ∷ negsuc 1 ∷ []
  pub none : frost_after 0 (pos 320) ≡ 0
  pub tenth_below : frost_after 0 (pos 319) ≡ 56
  pub tenth_above : frost_after 1000 (pos 321) ≡ 970 - 55
  pub thawed : frost_after 56 (pos 321) ≡ 0
  pub coldest : frost_after 0 (negsuc 999) ≡ 73334
  pub after_the_coldest : frost_after 73334 (pos 320) ≡ 71133
  pub largest : frost_after 2500000 (negsuc 999) ≡ 2498334
  -- thirty days of mean 140, -10 degrees Celsius, and then days of mean 410 until nothing is left
  pub winter :
      indexes 0 (replicate 30 (pos 140))
      ≡ 10000 ∷ 19700 ∷ 29109 ∷ 38235 ∷ 47087 ∷ 55674 ∷ 64003 ∷ 72082 ∷ 79919 ∷ 87521 ∷ 94895 ∷ 102048 ∷ 108986
      ∷ 115716 ∷ 122244 ∷ 128576 ∷ 134718 ∷ 140676 ∷ 146455 ∷ 152061 ∷ 157499 ∷ 162774 ∷ 167890 ∷ 172853 ∷ 177667 ∷ 182336
      ∷ 186865 ∷ 191259 ∷ 195521 ∷ 199655 ∷ []
  pub thaw :
      indexes 199655 (replicate 26 (pos 410))
      ≡ 188665 ∷ 178005 ∷ 167664 ∷ 157634 ∷ 147904 ∷ 138466 ∷ 129312 ∷ 120432 ∷ 111819 ∷ 103464 ∷ 95360 ∷ 87499 ∷ 79874
      ∷ 72477 ∷ 65302 ∷ 58342 ∷ 51591 ∷ 45043 ∷ 38691 ∷ 32530 ∷ 26554 ∷ 20757 ∷ 15134 ∷ 9679 ∷ 4388 ∷ 0 ∷ []
  -- at or above a setpoint counts as reached; condition III without frost stays III
  pub at_second : counts 83000 ≡ III ∷ III ∷ III ∷ []
  pub below_second : counts 82999 ≡ II ∷ II ∷ III ∷ []
  pub at_first : counts 56000 ≡ II ∷ II ∷ III ∷ []
  pub below_first : counts 55999 ≡ I ∷ II ∷ III ∷ []
  -- the index just set decides: 85,000 and mean 400 set 78,006, so that the day is not III any more
  pub thawing : frost_after 85000 (pos 400) ≡ 78006
  pub thawing_day : dormant 85000 0 (pos 400) ∷ dormant 85000 2000 (pos 400) ∷ dormant 85000 3000 (pos 400) ∷ [] ≡ II ∷ II ∷ III ∷ []
  -- 85,568 sets 83,000 on a day of mean 320, 85,567 sets 82,999, 57,732 sets 56,000 and 57,731 sets 55,999
  pub days : dormant 85568 0 (pos 320) ∷ dormant 85567 0 (pos 320) ∷ dormant 57732 0 (pos 320) ∷ dormant 57731 0 (pos 320) ∷ [] ≡ III ∷ II ∷ II ∷ I ∷ []

pub frost_figures : FrostFigures
unfolding
    indexes growing five_days falls_as_snow above_freezing meltable class condition_of floor or_zero frost_after not_dry counted today
frost_figures =
    record {
      floors = refl;
      none = refl;
      tenth_below = refl;
      tenth_above = refl;
      thawed = refl;
      coldest = refl;
      after_the_coldest = refl;
      largest = refl;
      winter = refl;
      thaw = refl;
      at_second = refl;
      below_second = refl;
      at_first = refl;
      below_first = refl;
      thawing = refl;
      thawing_day = refl;
      days = refl;
    }
