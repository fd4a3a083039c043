-- `spans::is_blank` meets its contract.
use Rattle.std.proofs.Common.{refl}
use Rattle.words.specs.Words.{is_blank}
use Rattle.words.proofs.spans.is_blank.Goals as goal

pub returns : goal.returns
unfolding is_blank
returns c = refl
