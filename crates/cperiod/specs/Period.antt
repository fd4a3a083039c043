-- A period as C gets it: what the call returns, how many days it tells, and the library's promise of all that was lent.
use Rattle.std.specs.Prelude.{List, ◌≡◌, ℕ, ℤ}
use Rattle.paper.specs.Setup.{Setup}
use Rattle.records.specs.Verdicts.{verdict_as}
use Rattle.recharge.specs.Period.{Periods}
use Rattle.recharge.specs.declared.periods.Ended.{Ended}
use Rattle.clib.specs.Numbers.{returned}

pub record PeriodGiven (s : Setup) (days : List ℤ) (soil₀ snow₀ sums₀ totals₀ soil snow sums totals : List ℕ) (accepted r : ℕ) : Type 0 where
  pub ended : Ended
  pub is : Periods s days soil₀ snow₀ sums₀ totals₀ ended soil snow sums totals
  pub number : r ≡ returned (verdict_as ended.verdict)
  pub counted : accepted ≡ ended.days
