-- The setup's lists: the cover table is a part of the numbers, each array has its numbers at its front where the paper's setup has them, and no number
-- is past the end.
use mathlib.Core.Path.{◌≡◌, sym, ap, ◌∙◌}
use mathlib.Core.List.{List}
use Prim.Native.Nat.{ℕ, ◌+◌, ◌*◌, ◌-◌, ◌≤◌}
use native.Mathlib.Omega.{arith}
use lib.ListN.{length, take, drop}
use lib.Seq.{length-take-le}
use Rattle.theory.proofs.ListLaws.{made_length, take_made}
use Rattle.text.specs.Program.{cover_count, cell_count, cells_from, days_from, setup}
use Rattle.records.specs.declared.setups.Setup.{Setup}
use Rattle.text.specs.Laying.{grid_in, climate_in, held, Laid}
use Rattle.text.specs.Taking.{layout_in}
use Rattle.text.specs.Run.{Complete}
use Rattle.text.specs.declared.taking.Layout.{Layout}
use Rattle.text.proofs.FieldLaws.{held_length, held_front}

module _ (ns : List ℕ) (layout : Layout) (c : Complete ns layout) where
  pub cells_counted : layout.cells ≡ cell_count ns
  unfolding layout_in
  cells_counted = ap (λ (l : Layout). l.cells) c.placed

  pub cells_fit : layout.cells ≤ 4096
  cells_fit = omega (arith, cells_counted, c.cells)

  table_end : layout.cells_from ≡ 5 + 16 * cover_count ns
  unfolding layout_in cells_from
  table_end = ap (λ (l : Layout). l.cells_from) c.placed

  pub table_starts : 5 ≤ layout.cells_from
  table_starts = omega (arith, table_end)

  pub table_ends : layout.cells_from ≤ length ns
  unfolding days_from cells_from
  table_ends = omega (arith, table_end, c.numbers)

  -- a part of an array that holds a list of the cells
  pub part_held : (r l : List ℕ) → r ≡ held l → layout.cells ≤ length r
  part_held r l e = omega (arith, cells_fit, ap length e, held_length l)

  pub part_long : (r l : List ℕ) → r ≡ held l → layout.cells ≡ length (take layout.cells r)
  part_long r l e = sym (length-take-le layout.cells r (part_held r l e))

  taken : (r l : List ℕ) → r ≡ held l → length l ≡ cell_count ns → take layout.cells r ≡ l
  taken r l e long = ap (take layout.cells) e ∙ held_front l layout.cells (cells_counted ∙ sym long) cells_fit

  pub laid :
      (s : Setup) (direction cover group water : List ℕ)
      → s.grid ≡ grid_in ns → s.climate ≡ climate_in ns → s.covers.now ≡ take (layout.cells_from - 5) (drop 5 ns)
      → s.direction.now ≡ take layout.cells direction → s.cover.now ≡ take layout.cells cover → s.group.now ≡ take layout.cells group
      → s.available.now ≡ take layout.cells water
      → direction ≡ held (setup ns).direction → cover ≡ held (setup ns).cover → group ≡ held (setup ns).group → water ≡ held (setup ns).available
      → Laid ns s
  unfolding setup
  laid s direction cover group water grid climate covers ed ek eg ew d k g w =
      let table : layout.cells_from - 5 ≡ 16 * cover_count ns = omega (arith, table_end) in
      record {
        grid = grid;
        climate = climate;
        table = covers ∙ ap (λ (n : ℕ). take n (drop 5 ns)) table ∙ take_made (16 * cover_count ns) 5 ns (omega (arith, table_end, table_ends));
        directions = ed ∙ taken direction _ d (made_length _ _);
        codes = ek ∙ taken cover _ k (made_length _ _);
        groups = eg ∙ taken group _ g (made_length _ _);
        waters = ew ∙ taken water _ w (made_length _ _);
      }
