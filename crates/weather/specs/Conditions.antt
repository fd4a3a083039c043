-- The code's antecedent conditions as the paper's, and the curve number in them.
use Rattle.std.specs.Prelude.{cond, ℕ, ◌≤◌}
use Rattle.paper.specs.Limits.{within, least_curve_number, most_curve_number, most_gross}
use Rattle.paper.specs.State.{Memory}
use Rattle.paper.specs.CurveNumber as paper
use Rattle.weather.specs.declared.conditions.Condition.{Condition}
use Rattle.weather.specs.declared.conditions.Condition.TheVariants.{I, II, III}

abbrev pub condition_as : Condition → paper.Condition
condition_as I = paper.I
condition_as II = paper.II
condition_as III = paper.III

-- no figure is above a day's largest gross precipitation
pub record FiveFit (m : Memory) : Type 0 where
  pub oldest : m.oldest ≤ most_gross
  pub fourth : m.fourth ≤ most_gross
  pub third : m.third ≤ most_gross
  pub second : m.second ≤ most_gross
  pub yesterday : m.yesterday ≤ most_gross

-- the table's N in a condition; a number outside the table's limits is handed back
unfoldable pub curve_number_by : paper.Condition → ℕ → ℕ
curve_number_by c N = cond (within least_curve_number most_curve_number N) (paper.curve_number c N) N
