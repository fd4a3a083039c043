-- `Grid::cells` meets its contract: the product of two 32-bit numbers fits 64 bits.
use Rattle.std.proofs.Common.{refl, arith, rules}
use Rattle.paper.specs.Setup.{cells_of}
use Rattle.theory.proofs.Widths.{product_fits}
use Rattle.records.proofs.grids.Grid.cells.Goals as goal

pub overflow_mul-result : goal.overflow_mul-result
overflow_mul-result c =
    let width = c.index_of.ensures in
    let height = c.index_of-2.ensures in
    record { fits = product_fits _ _ (omega (arith, width)) (omega (arith, height)) }

pub index_of-requires-2 : goal.index_of-requires-2
unfolding cells_of
index_of-requires-2 c = search rules

pub returns : goal.returns
unfolding cells_of
returns c = rw (c.index_of.ensures, c.index_of-2.ensures) refl
