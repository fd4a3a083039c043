-- `reading::fill` meets its contract: what is stored and what is left are all the cells.
use Rattle.std.proofs.Common.{◌∙◌}
use Rattle.grids.proofs.WholeLaws.{whole}
use Rattle.grids.proofs.ScanLaws.{filled_room, filled_next, filled_all}
use Rattle.grids.proofs.reading.fill.Goals as goal

pub bounds-cells-i : goal.bounds-cells-i
bounds-cells-i c = filled_room _ _ _ _ _ _ _ c.loop-word.invariant c.loop-word-test.true

pub loop-word-preserved : goal.loop-word-preserved
loop-word-preserved c =
    let more = c.loop-word-test.true in
    filled_next _ _ _ _ _ _ _ c.loop-word.invariant more _ _ _ (whole _ (record { sfits = c.whole.type_inv }) ∙ c.whole.ensures) c.next_word-word-in-loop-word.ensures

pub returns : goal.returns
returns c = filled_all _ _ _ _ _ _ _ c.loop-word.invariant c.loop-word-test.false
