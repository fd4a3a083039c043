-- `order::put_in_order` meets its contract, by what its three parts ensure: the counts give the sources' array, with these it holds a queue, and at
-- the queue's end the laws say that the cells left over are those on rings, and that with none left over the array is the order.
use Rattle.survey.proofs.CountLaws.{counted_blank, one_way}
use Rattle.survey.proofs.PeelLaws.{queue_start, some_left, all_taken}
use Rattle.survey.proofs.order.put_in_order.Goals as goal

pub sources-first-requires : goal.sources-first-requires
sources-first-requires c = counted_blank c.requires.1 c.requires.0.most

pub peel-taken-requires : goal.peel-taken-requires
peel-taken-requires c = (c.requires.0, queue_start c.requires.1 c.sources-first.ensures)

pub returns-then-taken-n : goal.returns-then-taken-n
returns-then-taken-n c = some_left c.peel-taken.ensures (one_way c.requires.0) c.leftover.ensures

pub returns : goal.returns
returns c = all_taken c.peel-taken.ensures (one_way c.requires.0) c.if-taken-n.false
