-- `run::started` meets its contract: the cover table is a part of the numbers.
use Rattle.text.proofs.LayingLaws.{table_starts, table_ends}
use Rattle.sheet.proofs.run.started.Goals as goal

pub slice_bounds-setup-count : goal.slice_bounds-setup-count
slice_bounds-setup-count g c = table_starts _ _ c.requires

pub slice_bounds-setup-start : goal.slice_bounds-setup-start
slice_bounds-setup-start g c = table_starts _ _ c.requires

pub slice_bounds-setup-end : goal.slice_bounds-setup-end
slice_bounds-setup-end g c = table_ends _ _ c.requires
