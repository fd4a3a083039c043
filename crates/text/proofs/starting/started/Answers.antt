-- `starting::started` meets its contract: the cover table is a part of the numbers, the arrays hold the cells' numbers at their fronts, both stores are
-- parts of arrays of zeros, and no cell is past an array's end.
use Rattle.std.proofs.Common.{refl, ◌≤◌}
use Rattle.text.specs.Run.{Complete}
use Rattle.text.proofs.LayingLaws.{cells_fit, table_starts, table_ends, part_held, part_long, laid}
use Rattle.records.proofs.FrontLaws.{part_length}
use Rattle.text.proofs.StartLaws.{lent}
use Rattle.text.proofs.starting.started.Goals.{After-waters_in-water}
use Rattle.text.proofs.starting.started.Goals as goal

complete : (last : goal.After-waters_in-water) → Complete last.args.numbers.now last.args.layout
complete last = last.requires.0

few : (last : goal.After-waters_in-water) → last.args.layout.cells ≤ 4096
few last = cells_fit _ _ (complete last)

pub slice_bounds-setup-count : goal.slice_bounds-setup-count
slice_bounds-setup-count c = table_starts _ _ (complete (goal.at.slice_bounds-setup-count c).After-waters_in-water)

pub slice_bounds-setup-start : goal.slice_bounds-setup-start
slice_bounds-setup-start c = table_starts _ _ (complete (goal.at.slice_bounds-setup-start c).After-waters_in-water)

pub slice_bounds-setup-end : goal.slice_bounds-setup-end
slice_bounds-setup-end c = table_ends _ _ (complete (goal.at.slice_bounds-setup-end c).After-waters_in-water)

pub slice_bounds-direction-end : goal.slice_bounds-direction-end
slice_bounds-direction-end c = part_held _ _ (complete (goal.at.slice_bounds-direction-end c).After-waters_in-water) _ _ c.directions_in-direction.ensures

pub slice_bounds-setup-end-2 : goal.slice_bounds-setup-end-2
slice_bounds-setup-end-2 c = part_long _ _ (complete (goal.at.slice_bounds-setup-end-2 c).After-waters_in-water) _ _ c.directions_in-direction.ensures

pub slice_bounds-cover-end : goal.slice_bounds-cover-end
slice_bounds-cover-end c = part_held _ _ (complete (goal.at.slice_bounds-cover-end c).After-waters_in-water) _ _ c.covers_in-cover.ensures

pub slice_bounds-setup-end-3 : goal.slice_bounds-setup-end-3
slice_bounds-setup-end-3 c = part_long _ _ (complete (goal.at.slice_bounds-setup-end-3 c).After-waters_in-water) _ _ c.covers_in-cover.ensures

pub slice_bounds-group-end : goal.slice_bounds-group-end
slice_bounds-group-end c = part_held _ _ (complete (goal.at.slice_bounds-group-end c).After-waters_in-water) _ _ c.groups_in-group.ensures

pub slice_bounds-setup-end-4 : goal.slice_bounds-setup-end-4
slice_bounds-setup-end-4 c = part_long _ _ (complete (goal.at.slice_bounds-setup-end-4 c).After-waters_in-water) _ _ c.groups_in-group.ensures

pub slice_bounds-water-end : goal.slice_bounds-water-end
slice_bounds-water-end c = part_held _ _ (complete (goal.at.slice_bounds-water-end c).After-waters_in-water) _ _ c.waters_in-water.ensures

pub slice_bounds-setup-end-5 : goal.slice_bounds-setup-end-5
slice_bounds-setup-end-5 c = part_long _ _ (complete (goal.at.slice_bounds-setup-end-5 c).After-waters_in-water) _ _ c.waters_in-water.ensures

pub slice_bounds-soil-end : goal.slice_bounds-soil-end
slice_bounds-soil-end c = few (goal.at.slice_bounds-soil-end c).After-waters_in-water

pub slice_bounds-begun-end : goal.slice_bounds-begun-end
slice_bounds-begun-end c = part_length _ 4096 (few (goal.at.slice_bounds-begun-end c).After-waters_in-water)

pub slice_bounds-snow-end : goal.slice_bounds-snow-end
slice_bounds-snow-end c = few (goal.at.slice_bounds-snow-end c).After-waters_in-water

pub slice_bounds-begun-end-2 : goal.slice_bounds-begun-end-2
slice_bounds-begun-end-2 c = part_length _ 4096 (few (goal.at.slice_bounds-begun-end-2 c).After-waters_in-water)

pub begun-requires : goal.begun-requires
begun-requires c = (
  laid _ _ (complete (goal.at.begun-requires c).After-waters_in-water) _ c.directions_in-direction.result c.covers_in-cover.result c.groups_in-group.result c.waters_in-water.result
      c.grid_in.ensures c.climate_in.ensures refl refl refl refl refl
      c.directions_in-direction.ensures
      c.covers_in-cover.ensures
      c.groups_in-group.ensures
      c.waters_in-water.ensures,
  lent _ _ (complete (goal.at.begun-requires c).After-waters_in-water) c.requires.1,
)
