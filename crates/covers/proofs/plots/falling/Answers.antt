-- `plots::falling` meets its contract: both ways out are `given`'s.
use Rattle.std.proofs.Common.{ap, sym, Bool}
use Rattle.theory.specs.Sums.{given}
use Rattle.covers.proofs.plots.falling.Goals as goal

pub returns-then-so : goal.returns-then-so
unfolding given
returns-then-so c = sym (ap (λ (b : Bool). given b c.args.net.0) c.if-so.true)

pub returns-else-so : goal.returns-else-so
unfolding given
returns-else-so c = sym (ap (λ (b : Bool). given b c.args.net.0) c.if-so.false)
