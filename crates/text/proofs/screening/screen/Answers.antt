-- `screening::screen` meets its contract: each way out is one law of the tests before the run, and after tests 1 and 3 every sum is small.
use Rattle.std.proofs.Common.{sym, ap, ◌∙◌, ◌+◌, ◌*◌, ◌≤◌, arith}
use Rattle.paper.specs.Setup.{cells_of}
use Rattle.std.proofs.Common.{Ok, Err}
use Rattle.text.proofs.ScreenLaws.{few_cells, few_covers, too_few, no_grid, no_covers, bad_count, cut_off, is_ready}
use Rattle.text.proofs.screening.screen.Goals.{After-index_of}
use Rattle.text.proofs.screening.screen.Goals as goal

pub returns-then-count-lt2 : goal.returns-then-count-lt2
returns-then-count-lt2 c = ap Err c.cut_off.ensures ∙ too_few c.args.numbers.now c.if-count-lt2.true

pub returns-then-not-fits : goal.returns-then-not-fits
returns-then-not-fits c =
    let a = c.args in
    no_grid a.numbers.now c.if-count-lt2.false (sym c.fits.ensures ∙ c.if-not-fits.true)

pub returns-then-count-lt-FRONT_NUMBERS : goal.returns-then-count-lt-FRONT_NUMBERS
returns-then-count-lt-FRONT_NUMBERS c =
    let a = c.args in
    ap Err c.cut_off-then-count-lt-FRONT_NUMBERS.ensures ∙ no_covers a.numbers.now c.if-count-lt2.false (sym c.fits.ensures ∙ c.if-not-fits.false) c.if-count-lt-FRONT_NUMBERS.true

pub returns-then-not-covers_fit : goal.returns-then-not-covers_fit
returns-then-not-covers_fit c =
    let a = c.args in
    bad_count a.numbers.now c.if-count-lt2.false (sym c.fits.ensures ∙ c.if-not-fits.false) c.if-count-lt-FRONT_NUMBERS.false (sym c.covers_fit.ensures ∙ c.if-not-covers_fit.true)

-- all that is needed is little
needed_small : (c : goal.After-index_of) → 5 + 16 * c.index_of.result + 4 * c.cells-cells.result ≤ 17413
unfolding cells_of
needed_small c =
    let a = c.args in
    omega (
      arith,
      c.index_of.ensures,
      c.cells-cells.ensures,
      few_cells a.numbers.now (sym c.fits.ensures ∙ c.if-not-fits.false),
      few_covers a.numbers.now (sym c.covers_fit.ensures ∙ c.if-not-covers_fit.false),
    )

pub overflow_mul-index_of : goal.overflow_mul-index_of
overflow_mul-index_of c = omega (arith, needed_small (goal.at.overflow_mul-index_of c).After-index_of)

pub overflow_add-index_of : goal.overflow_add-index_of
overflow_add-index_of c = omega (arith, needed_small (goal.at.overflow_add-index_of c).After-index_of)

pub overflow_mul-cells : goal.overflow_mul-cells
overflow_mul-cells c = omega (arith, needed_small (goal.at.overflow_mul-cells c).After-index_of)

pub overflow_add-index_of-2 : goal.overflow_add-index_of-2
overflow_add-index_of-2 c = omega (arith, needed_small (goal.at.overflow_add-index_of-2 c).After-index_of)

pub returns-then-not-complete : goal.returns-then-not-complete
unfolding cells_of
returns-then-not-complete c =
    let a = c.args in
    ap Err c.cut_off-then-not-complete.ensures
    ∙ cut_off a.numbers.now c.if-count-lt2.false (sym c.fits.ensures ∙ c.if-not-fits.false) c.if-count-lt-FRONT_NUMBERS.false (sym c.covers_fit.ensures ∙ c.if-not-covers_fit.false)
    (rw (c.cells-cells.ensures, c.index_of.ensures) at (sym c.complete.ensures ∙ c.if-not-complete.true))

pub returns : goal.returns
unfolding cells_of
returns c =
    let a = c.args in
    ap Ok c.cells-cells.ensures
    ∙ is_ready a.numbers.now c.if-count-lt2.false (sym c.fits.ensures ∙ c.if-not-fits.false) c.if-count-lt-FRONT_NUMBERS.false (sym c.covers_fit.ensures ∙ c.if-not-covers_fit.false)
    (rw (c.cells-cells.ensures, c.index_of.ensures) at (sym c.complete.ensures ∙ c.if-not-complete.false))
