-- `writing::put_header` meets its contract: line after line.
use Rattle.std.proofs.Common.{◌<◌, arith, length}
use Rattle.words.specs.Digits.{bytes}
use Rattle.grids.proofs.WholeLaws.{whole}
use Rattle.grids.proofs.FormLaws.{header_wrote}
use Rattle.grids.proofs.writing.put_header.Goals as goal

pub returns : goal.returns
unfolding bytes
returns c =
    let long : length c.args.buffer.now < 18446744073709551616 = omega arith in
    header_wrote _ (omega (arith, long)) c.put_size-a.ensures c.put_size-b.ensures c.put_measure-c.ensures c.put_measure-d.ensures c.put_measure-e.ensures
    (rw (whole c.args.header.no_data (record { sfits = omega arith })) at c.put_no_data.ensures)
