-- `knots::next` meets its contract: what it works out is the step as the contract writes it.
use Rattle.std.proofs.Common.{refl}
use Rattle.retention.proofs.knots.next.Goals as goal

pub returns : goal.returns
returns c = refl
