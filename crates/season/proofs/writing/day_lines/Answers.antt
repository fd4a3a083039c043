-- `writing::day_lines` meets its contract: the lines of as many days as both lists have, and the last line after them.
use Rattle.std.proofs.Common.{arith}
use Rattle.season.proofs.LinesLaws.{lines_ended}
use Rattle.season.proofs.writing.day_lines.Goals as goal

pub returns : goal.returns
returns c =
    lines_ended _ _ _ _ (omega (arith, c.well_formed)) c.min-count.ensures c.units.ensures
    c.put_days-next.ensures c.ended.ensures
