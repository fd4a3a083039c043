use Rattle.std.proofs.Common.{◌≡◌, length}
use Rattle.grids.specs.Headers.{lowered, same}
use Rattle.grids.proofs.NameLaws.{left}
use Rattle.grids.proofs.names.is_name.Given as goal

abbrev pub invariant-loop-i : goal.invariant-loop-i
invariant-loop-i l = (length l.word ≡ length l.name) × (same (lowered l.word) l.name ≡ left (lowered l.word) l.name l.i)
