-- `given::record_of` meets its contract: a 32-bit figure as a depth is the same number, and a signed number written and read back too.
use Rattle.std.proofs.Common.{to_z-of_z, w32, arith}
use Rattle.clib.proofs.given.record_of.Goals as goal

pub returns : goal.returns
returns c =
    let day = c.args.day in (
      λ k. record {
        serial = day.serial;
        day_of_year = day.day_of_year;
        gross = c.depth.ensures.0 k;
        minimum = to_z-of_z {w = w32} {z = day.minimum} (record { sfits = omega arith }) k;
        mean = to_z-of_z {w = w32} {z = day.mean} (record { sfits = omega arith }) k;
        maximum = to_z-of_z {w = w32} {z = day.maximum} (record { sfits = omega arith }) k;
        potential = c.depth-2.ensures.0 k;
      },
      c.depth.ensures.1,
    )
