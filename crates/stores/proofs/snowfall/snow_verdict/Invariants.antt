use Rattle.records.proofs.PlaceLaws.{PassedTo}
use Rattle.stores.specs.Snowfall.{deep_by}
use Rattle.stores.proofs.snowfall.snow_verdict.Given as goal

abbrev pub invariant-loop-i : goal.invariant-loop-i
invariant-loop-i l = PassedTo (deep_by l.plots l.slots l.snow) l.i
