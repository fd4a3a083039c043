-- `state::past_from` meets its contract: its parts are read by their own promises.
use Rattle.clib.specs.Numbers.{past_from}
use Rattle.clib.proofs.state.past_from.Goals as goal

pub returns : goal.returns
unfolding past_from
returns c = (cc, record { memory = c.memory_from-memory.ensures.1; frost = c.index-frost.ensures.1 })
