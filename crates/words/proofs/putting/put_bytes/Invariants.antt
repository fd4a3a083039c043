use Rattle.std.proofs.Common.{take}
use Rattle.words.specs.Writing.{Put}
use Rattle.words.proofs.putting.put_bytes.Given as goal

abbrev pub invariant-loop-byte : goal.invariant-loop-byte
invariant-loop-byte l = Put l.at (take l.byte-index l.bytes) l.initial.buffer l.buffer l.next
