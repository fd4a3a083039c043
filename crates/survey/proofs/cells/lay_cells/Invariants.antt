use Rattle.std.proofs.Common.{◌≡◌, ◌*◌, ◌-◌}
use Rattle.survey.specs.Cells.{slot_at}
use Rattle.survey.proofs.LayingLaws.{Laid}
use Rattle.survey.proofs.cells.lay_cells.Given as goal

abbrev pub invariant-loop-i : goal.invariant-loop-i
invariant-loop-i l =
    Laid l.width l.height l.covers l.direction (slot_at l.index l.cover l.group l.available) l.initial.slots l.initial.ways l.slots l.ways l.order l.row l.column l.i
