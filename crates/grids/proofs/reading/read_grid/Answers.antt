-- `reading::read_grid` meets its contract: the verdict is the paper's, and the cells are filled in only where it accepts.
use Rattle.std.proofs.Common.{◌≡◌, refl, sym, ap, ◌∙◌, ◌≤◌, arith, rules, leb, ℤ, length, drop, Err}
use lib.Seq.{sets}
use Rattle.words.specs.Words.{words}
use Rattle.grids.specs.Cells.{wholes, cell_fits, passing}
use Rattle.grids.specs.Judging.{judged}
use Rattle.grids.specs.Reading.{read_verdict}
use Rattle.grids.specs.Given.{header_as}
use Rattle.grids.proofs.WholeLaws.{whole}
use Rattle.grids.proofs.AnswerLaws.{cells_after, read_judged, room_enough, reads_yes, reads_no}
use Rattle.grids.proofs.reading.read_grid.Goals.{After-judged}
use Rattle.grids.proofs.reading.read_grid.Goals as goal

says :
    (c : goal.After-judged)
    → judged (header_as c.in_text-header.result) c.scan-found.result.passing c.scan-found.result.count (leb c.scan-found.result.count (length c.args.cells.now))
    ≡ read_verdict c.args.text.now (length c.args.cells.now)
says c =
    let text = c.args.text.now in
    let met = wholes (words (drop c.span_at-from.result.end text)) in
    read_judged text _ _ c.span_at-from.ensures c.in_text-header.result _ _ _ c.in_text-header.ensures
    (c.scan-found.ensures.0 ∙ ap (λ (z : ℤ). passing (cell_fits z) met) (whole _ (record { sfits = omega arith })))
    c.scan-found.ensures.1

pub returns-in_err-judged : goal.returns-in_err-judged
returns-in_err-judged c =
    let bad = c.in_err-judged.field-0.0 in
    let same : c.from_residual.result ≡ Err bad = search rules in
    rw same (reads_no _ _ _ bad (sym (c.in_err-judged.ensures ∙ says (goal.at.returns-in_err-judged c).After-judged)) refl)

pub fill-requires : goal.fill-requires
fill-requires c =
    let room : c.scan-found.result.count ≤ length c.args.cells.now = room_enough _ _ _ _ _ (sym c.in_ok-judged.ensures) in
    omega (arith, c.scan-found.ensures.1)

pub returns : goal.returns
returns c =
    reads_yes _ _ _ _ (sym (c.in_ok-judged.ensures ∙ says (goal.at.returns c).After-judged)) c.in_text-header.ensures
    (c.fill.ensures ∙ ap (sets c.args.cells.now 0) (cells_after _ _ _ c.span_at-from.ensures))
