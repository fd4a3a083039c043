-- `run::run` meets its contract: numbers that are ready are complete.
use Rattle.std.proofs.Common.{ℕ}
use lib.ListN.{length-replicate}
use Rattle.text.proofs.TakingLaws.{ReadyText, ready_text}
use Rattle.why.proofs.run.run.Goals.{In-Ok}
use Rattle.why.proofs.run.run.Goals as goal

-- what a text that is ready has
ready : (g : _) (c : In-Ok g) → ReadyText c.args.input.now c.take_up.new.numbers c.in-Ok.layout
ready g c = ready_text _ _ _ _ _ (length-replicate {A = ℕ} 32768 0) c.take_up.ensures c.in-Ok.is

pub slice_bounds-numbers-end : goal.slice_bounds-numbers-end
slice_bounds-numbers-end g c = (ready g (goal.at.slice_bounds-numbers-end g c).In-Ok).room

pub slice_bounds-started-end : goal.slice_bounds-started-end
slice_bounds-started-end g c = (ready g (goal.at.slice_bounds-started-end g c).In-Ok).counted

pub started-requires : goal.started-requires
started-requires g c = (ready g (goal.at.started-requires g c).In-Ok).complete
