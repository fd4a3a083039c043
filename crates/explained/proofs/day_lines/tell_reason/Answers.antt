-- `day_lines::tell_reason` meets its contract: a reason has its line, and a refusal is the last line.
use Rattle.std.proofs.Common.{refl, arith}
use Rattle.explained.proofs.TellingLaws.{reason_told, refusal_told}
use Rattle.explained.proofs.day_lines.tell_reason.Goals as goal

pub returns-in-Ok : goal.returns-in-Ok
returns-in-Ok c = rw c.in-Ok.is (reason_told _ _ _ _ _ _ _ _ _ refl (omega arith) c.reason_line.ensures)

pub returns-in-Err : goal.returns-in-Err
returns-in-Err c = rw c.in-Err.is (refusal_told _ _ _ _ _ _ refl c.refusal.ensures)
