-- `taking::take_up` meets its contract: what was read stands at the front of the numbers, and its form or the tests of its numbers decide.
use Rattle.std.proofs.Common.{arith}
use Rattle.text.proofs.TakingLaws.{broken_taken, whole_counted, whole_taken}
use Rattle.text.proofs.taking.take_up.Goals as goal

pub slice_bounds-screened-end : goal.slice_bounds-screened-end
slice_bounds-screened-end c = whole_counted _ _ _ _ _ c.read.ensures c.in-Ok.is (omega arith)

pub returns-in-Ok : goal.returns-in-Ok
returns-in-Ok c = whole_taken _ _ _ _ _ c.read.ensures c.in-Ok.is (omega arith) _ c.screened.ensures

pub returns-in-Err : goal.returns-in-Err
returns-in-Err c = broken_taken _ _ _ _ _ c.read.ensures _ c.in-Err.is c.units.ensures
