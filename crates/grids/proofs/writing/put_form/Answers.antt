-- `writing::put_form` meets its contract: the header, then the rows.
use Rattle.std.proofs.Common.{◌<◌, arith, length}
use Rattle.grids.proofs.FormLaws.{grid_wrote}
use Rattle.grids.proofs.writing.put_form.Goals as goal

pub returns : goal.returns
returns g c =
    let long : length c.args.buffer.now < 18446744073709551616 = omega arith in
    grid_wrote g.C.Cell.form _ _ (omega (arith, long)) c.put_header-from.ensures (rw c.index_of.ensures at c.put_rows.ensures)
