use Rattle.weather.specs.Today.{today_as}
use Rattle.recharge.specs.Downhill.{slices_of}
use Rattle.records.specs.Answers.{totals_as}
use Rattle.recharge.proofs.DownhillLaws.{Pass}
use Rattle.recharge.proofs.downhill.downhill.Given as goal

abbrev pub invariant-loop-turn : goal.invariant-loop-turn
invariant-loop-turn l =
    Pass (today_as l.today) l.plots l.slots l.ways l.order l.available (slices_of l.initial.soil l.initial.snow l.initial.intercepted l.initial.outflow l.initial.evapotranspired l.initial.recharged l.initial.rejected) l.turn (totals_as l.totals) l.f l.arrived
    (slices_of l.soil l.snow l.intercepted l.outflow l.evapotranspired l.recharged l.rejected)
