-- `program::text` meets its contract: a text that is taken up is refused or run, and numbers that are ready have what the run asks for.
use Rattle.std.proofs.Common.{ℕ, arith}
use lib.ListN.{length-replicate}
use Rattle.words.proofs.WritingLaws.{wrote_whole}
use Rattle.text.proofs.PrintedLaws.{text_refused, text_runs}
use Rattle.text.proofs.TakingLaws.{ReadyText, ready_text}
use Rattle.text.proofs.program.text.Goals.{In-Ok}
use Rattle.text.proofs.program.text.Goals as goal

-- what a text that is ready has
ready : (c : goal.In-Ok) → ReadyText c.args.input.now c.take_up.new.numbers c.in-Ok.layout
ready c = ready_text _ _ _ _ _ (length-replicate {A = ℕ} 32768 0) c.take_up.ensures c.in-Ok.is

pub slice_bounds-numbers-end : goal.slice_bounds-numbers-end
slice_bounds-numbers-end c = (ready (goal.at.slice_bounds-numbers-end c).In-Ok).room

pub slice_bounds-started-end : goal.slice_bounds-started-end
slice_bounds-started-end c = (ready (goal.at.slice_bounds-started-end c).In-Ok).counted

pub started-requires : goal.started-requires
started-requires c = let r = ready (goal.at.started-requires c).In-Ok in (r.complete, r.coded)

pub returns-in-Err : goal.returns-in-Err
returns-in-Err c = wrote_whole (text_refused _ _ _ _ c.take_up.ensures _ c.in-Err.is) (omega arith) c.refused.ensures

pub returns-in-Ok : goal.returns-in-Ok
returns-in-Ok c = wrote_whole (text_runs _ _ _ _ c.take_up.ensures _ c.in-Ok.is (ready (goal.at.returns-in-Ok c).In-Ok)) (omega arith) c.started.ensures
