-- `reading::store` meets its contract: past the end a store changes nothing.
use Rattle.std.proofs.Common.{sym}
use lib.Seq.{set_out}
use Rattle.season.proofs.reading.store.Goals as goal

pub returns-else-place-days : goal.returns-else-place-days
returns-else-place-days c = let args = c.args in sym (set_out args.days.now args.place args.number c.if-place-days.false)
