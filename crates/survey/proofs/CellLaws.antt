-- From a cell's slot come back its entry and its group, so that the cell and the way that the code finds by it are the paper's.
use mathlib.Core.Path.{◌≡◌, refl}
use mathlib.Core.Bool.{Bool, true, cond}
use Prim.Native.Nat.{ℕ, suc, ◌+◌, ◌*◌, ◌/◌, ◌%◌, ◌≤◌, ◌<◌}
use native.Mathlib.Omega.{arith}
use lib.Dec.{eqb}
use lib.ListN.{get_or}
use borrow.Author.Tests.{leb-true}
use Rattle.theory.proofs.Cases.{and_left, and_right}
use Rattle.paper.specs.Limits.{most_cells}
use Rattle.paper.specs.Covers.{entries, open_of}
use Rattle.paper.specs.Directions.{Goes, open_water, way_of, goes_by}
use Rattle.paper.specs.Setup.{Setup, cell, cells, entry_of, group_of, available_of, cell_fits, is_open, goes, pointed, next}
use Rattle.paper.proofs.SetupLaws.{Charted, entry_in, closed_by_lem}
use Rattle.covers.specs.Slots.{cell_from}
use Rattle.survey.specs.Charts.{slot_of}
use Rattle.survey.specs.Cells.{way_at}

module _ (s : Setup) (ok : Charted s) (i : ℕ) (h : i < cells s) where
  group_within : (1 ≤ group_of s i) × (group_of s i ≤ 4)
  unfolding cell_fits
  group_within =
      let fits : cell_fits s i ≡ true = ok.celled i h in
      (leb-true _ _ (search (and_left, and_right)), leb-true _ _ (search (and_left, and_right)))

  pub slot_entry : slot_of s i / 4 ≡ entry_of s i
  slot_entry = omega (arith, group_within)

  pub slot_group : slot_of s i % 4 + 1 ≡ group_of s i
  slot_group = omega (arith, group_within)

  pub slot_limit : slot_of s i < 4 * entries s.covers
  slot_limit = omega (arith, group_within, (entry_in s ok i h).0)

  pub cell_is : cell s i ≡ cell_from s.covers (slot_of s i) (available_of s i) (next s i)
  unfolding cell cell_from is_open
  cell_is = rw (slot_entry, slot_group, closed_by_lem s ok i h) refl

  pub way_is : (slot : ℕ → ℕ) → slot i ≡ slot_of s i → next s i ≡ way_at s.grid.width s.grid.height s.covers slot s.direction i
  unfolding next goes way_at is_open
  way_is slot e = rw (e, slot_entry) (go (eqb (open_of s.covers (entry_of s i)) 1) (goes_by s.grid.width s.grid.height i (way_of (get_or s.direction i 0))))
    where
      go : (b : Bool) (g : Goes) → pointed (cond b open_water g) ≡ cond b (suc (suc most_cells)) (pointed g)
      go true g = unfold pointed in refl
      go Bool.false g = refl
