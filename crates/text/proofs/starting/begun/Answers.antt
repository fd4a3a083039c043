-- `starting::begun` meets its contract: the fresh state on the laid slices is the paper's, and its refusal or the days after it are the whole text.
use Rattle.std.proofs.Common.{refl, arith}
use Rattle.words.proofs.WritingLaws.{wrote_whole}
use Rattle.text.proofs.StartLaws.{days_ready, start_refused, start_runs}
use Rattle.text.proofs.starting.begun.Goals as goal

pub days-requires : goal.days-requires
days-requires c = let p = c.requires in days_ready _ _ _ _ _ p.0 p.1

pub returns-in-Err : goal.returns-in-Err
returns-in-Err c = let p = c.requires in
    wrote_whole
    (start_refused _ _ _ _ _ p.0 p.1 _ _
    (rw c.in-Err.is at c.fresh.ensures) refl)
    (omega arith)
    c.refusal.ensures

pub returns-in-Ok : goal.returns-in-Ok
returns-in-Ok c = let p = c.requires in
    wrote_whole
    (start_runs _ _ _ _ _ p.0 p.1 _
    (rw c.in-Ok.is at c.fresh.ensures) refl)
    (omega arith)
    c.days.ensures
