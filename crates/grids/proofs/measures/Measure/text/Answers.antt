-- `Measure::text` meets its contract: the bytes before the count; a count past them all is no text's.
use Rattle.std.proofs.Common.{arith}
use Rattle.grids.proofs.MeasureLaws.{text_some, text_none}
use Rattle.grids.proofs.measures.Measure.text.Goals as goal

pub returns-in-Some : goal.returns-in-Some
returns-in-Some c = let found = c.in-Some.ensures.lookup.0 in text_some c.args.self.now (omega arith) _ found.1 found.2

pub returns-in-None : goal.returns-in-None
returns-in-None c = text_none c.args.self.now (omega arith) c.in-None.ensures.lookup.0
