-- `telling::tell` meets its contract: the verdict is whether a line or a refusal was written.
use Rattle.std.proofs.Common.{refl}
use Rattle.lines.proofs.TellingLaws.{tells_line, tells_refusal}
use Rattle.lines.proofs.telling.tell.Goals as goal

pub returns-in-Ok : goal.returns-in-Ok
returns-in-Ok c = rw c.in-Ok.is (tells_line _ _ _ _ _ _ _ refl c.line.ensures)

pub returns-in-Err : goal.returns-in-Err
returns-in-Err c = rw c.in-Err.is (tells_refusal _ _ _ _ _ _ _ _ refl c.refusal.ensures)
