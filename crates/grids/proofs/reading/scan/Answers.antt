-- `reading::scan` meets its contract: what is counted and what is left are all the cells.
use Rattle.std.proofs.Common.{ap, ◌∙◌, arith, ℤ, drop}
use Rattle.words.specs.Words.{words}
use Rattle.grids.specs.Cells.{wholes, cell_fits, passing}
use Rattle.grids.proofs.WholeLaws.{read, whole}
use Rattle.grids.proofs.ScanLaws.{counted_first, counted_most, counted_next, counted_all}
use Rattle.grids.proofs.reading.scan.Goals as goal

pub loop-word-init : goal.loop-word-init
loop-word-init c = counted_first _ _ _ _ _ c.next_word-word.ensures

pub passed-passing-requires : goal.passed-passing-requires
passed-passing-requires c = omega (arith, c.loop-word.invariant.few, counted_most _ _ _ _ _ _ _ c.loop-word.invariant)

pub overflow_add-count : goal.overflow_add-count
overflow_add-count c = record { fits = omega (arith, counted_most _ _ _ _ _ _ _ c.loop-word.invariant) }

pub loop-word-preserved : goal.loop-word-preserved
loop-word-preserved c =
    let word = c.whole in
    counted_next _ _ _ _ _ _ _ c.loop-word.invariant _ _ _ _ c.loop-word-test.true
    (c.cell_fits-fits.ensures ∙ ap (cell_fits (read c.args.no_data)) (whole _ (record { sfits = word.type_inv }) ∙ word.ensures))
    c.passed-passing.ensures c.next_word-word-in-loop-word.ensures

pub returns : goal.returns
returns c =
    let all = wholes (words (drop c.args.from c.args.text.now)) in
    let found = counted_all _ _ _ _ _ _ _ c.loop-word.invariant c.loop-word-test.false in
    (found.0 ∙ ap (λ (z : ℤ). passing (cell_fits z) all) (whole _ c.ranges.no_data), found.1)
