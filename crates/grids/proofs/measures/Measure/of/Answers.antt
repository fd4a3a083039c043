-- `Measure::of` meets its contract: the word's bytes are put into zeros.
use Rattle.grids.proofs.MeasureLaws.{measure_made}
use Rattle.grids.proofs.measures.Measure.of.Goals as goal

pub returns : goal.returns
returns c = measure_made _ _ _ c.requires c.put_bytes-count.ensures
