-- `snowfall::is_deep` meets its contract: it reads the snowfall of the slot.
use Rattle.std.proofs.Common.{refl}
use Rattle.stores.proofs.snowfall.is_deep.Goals as goal

pub returns : goal.returns
returns c =
    let small = c.small_index-at in
    rw (c.within_32.ensures.0, c.within_32-2.ensures.0, small.ensures.0) refl
