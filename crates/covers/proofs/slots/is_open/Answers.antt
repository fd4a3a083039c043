-- `slots::is_open` meets its contract: it tests the entry's own number.
use Rattle.covers.proofs.slots.is_open.Goals as goal

pub returns : goal.returns
returns c = cc
