-- `state::memory_from` meets its contract: five numbers read; each fits 32 bits, as the array's do.
use Rattle.std.proofs.Common.{rules}
use Rattle.clib.specs.Numbers.{memory_from}
use Rattle.clib.proofs.state.memory_from.Goals as goal

pub returns : goal.returns
unfolding memory_from
returns c = (cc, record { oldest = search rules; fourth = search rules; third = search rules; second = search rules; yesterday = search rules })
