-- `writing::put_measure` meets its contract: the name, then the text.
use Rattle.std.proofs.Common.{arith}
use Rattle.grids.proofs.MeasureLaws.{text_few}
use Rattle.grids.proofs.FormLaws.{text_line}
use Rattle.grids.proofs.writing.put_measure.Goals as goal

pub returns : goal.returns
returns c =
    text_line _ _ (omega arith) (text_few c.args.measure) c.put_name-value.ensures (rw c.text.ensures at c.put_bytes-end.ensures) c.put_byte.ensures
