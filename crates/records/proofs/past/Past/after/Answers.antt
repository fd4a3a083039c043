-- `Past::after` meets its contract: the memory and the frost index are the next ones, by their own promises.
use Rattle.paper.specs.State.{serial}
use Rattle.records.proofs.past.Past.after.Goals as goal

pub returns : goal.returns
returns c =
    let day = c.args.day in
    λ k. record { memory = c.next.ensures k; last = serial day.serial; frost = c.frost_after.ensures k }
