use Rattle.recharge.specs.Period.{Added}
use Rattle.recharge.proofs.periods.add_figures.Given as goal

abbrev pub invariant-loop-i : goal.invariant-loop-i
invariant-loop-i l = Added l.from l.i l.figures l.initial.sums l.sums
