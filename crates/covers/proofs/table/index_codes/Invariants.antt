use Rattle.std.proofs.Common.{◌≡◌}
use Rattle.covers.specs.Table.{index_of}
use Rattle.covers.proofs.table.index_codes.Given as goal

abbrev pub invariant-loop-e : goal.invariant-loop-e
invariant-loop-e l = l.index ≡ index_of l.covers l.e
