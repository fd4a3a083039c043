use Rattle.records.specs.Grids.{setup_of}
use Rattle.records.specs.Past.{state_as}
use Rattle.recharge.proofs.PeriodLaws.{Underway}
use Rattle.recharge.proofs.periods.run.Given as goal

abbrev pub invariant-loop-k : goal.invariant-loop-k
invariant-loop-k l =
    Underway (setup_of l.setup) l.days l.initial.totals (state_as l.soil l.snow l.past) l.sums l.totals
    l.intercepted l.outflow l.evapotranspired l.recharged l.rejected l.k
