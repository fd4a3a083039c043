-- `state::index_kept` meets its contract: an index that fits 32 bits is the same number.
use Rattle.std.proofs.Common.{refl}
use Rattle.clib.proofs.state.index_kept.Goals as goal

pub returns : goal.returns
returns c = refl
