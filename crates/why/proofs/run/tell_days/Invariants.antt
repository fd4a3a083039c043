-- `run::tell_days` shows no more days than it runs.
use Rattle.std.proofs.Common.{◌≤◌}
use Rattle.why.proofs.run.tell_days.Given as goal

abbrev pub invariant-loop-k : goal.invariant-loop-k
invariant-loop-k g l = l.shown ≤ l.k
