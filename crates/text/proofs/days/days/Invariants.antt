use Rattle.theory.specs.Lists.{made}
use Rattle.records.specs.Grids.{setup_of}
use Rattle.records.specs.Past.{state_as}
use Rattle.text.specs.Program.{day_count, day_at}
use Rattle.text.proofs.RunLaws.{Running}
use Rattle.text.proofs.days.days.Given as goal

abbrev pub invariant-loop-k : goal.invariant-loop-k
invariant-loop-k l =
    Running l.n (setup_of l.setup) (state_as l.initial.soil l.initial.snow l.initial.past) (made (day_count l.numbers) (day_at l.numbers)) l.initial.output l.output
    (state_as l.soil l.snow l.past) l.intercepted l.outflow l.evapotranspired l.recharged l.rejected l.at l.done l.k
