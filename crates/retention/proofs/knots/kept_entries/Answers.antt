-- `knots::kept_entries` meets its contract: the check builds the list from the step rule and finds each of the 129 constants in its place.
use Rattle.retention.proofs.RetentionTable.{stepped, built, kept_built}
use Rattle.retention.proofs.knots.kept_entries.Goals as goal

pub returns : goal.returns
unfolding stepped built
returns c = kept_built
