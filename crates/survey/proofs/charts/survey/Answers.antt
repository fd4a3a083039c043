-- `charts::survey` meets its contract: each way out is the verdict of the tests up to there, and a refused one wipes the arrays.
use Rattle.std.proofs.Common.{true, ◌≡◌, sym, ap, ◌∙◌, refl, ℕ}
use Rattle.paper.specs.Setup.{Setup, cells, grid_fits}
use Rattle.paper.specs.Refusals.{grid, lent, one_each, setup_lengths}
use Rattle.paper.specs.Day.{check_of}
use Rattle.records.specs.Grids.{setup_of}
use Rattle.records.proofs.VerdictLaws.{refused_not}
use Rattle.survey.proofs.CallLaws.{grid_bad, lent_bad, surveyable, refuse_survey, chart_refuses, chart_passes}
use Rattle.survey.proofs.charts.survey.Goals.{Else-not-fits, Else-not-one_each, Start}
use Rattle.survey.proofs.charts.survey.Goals as goal

abbrev setup : goal.Start → Setup
setup s =
    setup_of s.args.setup.now

pub returns-then-not-fits : goal.returns-then-not-fits
unfolding check_of
returns-then-not-fits c =
    let s = setup (goal.at.returns-then-not-fits c).Start in
    refuse_survey s _ _ _ grid _ _ _ (grid_bad s (setup_lengths s) (sym c.fits.ensures ∙ c.if-not-fits.true)) refl
    c.wipe.ensures

-- the grid fits
fits : (c : goal.Else-not-fits) → grid_fits (setup (goal.at.Else-not-fits c).Start).grid ≡ true
fits c = sym c.fits.ensures ∙ c.if-not-fits.false

pub returns-then-not-one_each : goal.returns-then-not-one_each
unfolding check_of setup_lengths
returns-then-not-one_each c =
    let s = setup (goal.at.returns-then-not-one_each c).Start in
    refuse_survey s _ _ _ lent _ _ _
    (lent_bad s (setup_lengths s) (fits (goal.at.returns-then-not-one_each c).Else-not-fits)
    (ap (λ (n : ℕ). one_each n (setup_lengths s)) (sym c.cells.ensures) ∙ sym c.one_each.ensures
    ∙ c.if-not-one_each.true)) refl c.wipe-then-not-one_each.ensures

-- and each slice has one entry a cell
each : (c : goal.Else-not-one_each) → one_each (cells (setup (goal.at.Else-not-one_each c).Start)) (setup_lengths (setup (goal.at.Else-not-one_each c).Start)) ≡ true
unfolding setup_lengths
each c =
    ap (λ (n : ℕ). one_each n (setup_lengths (setup (goal.at.Else-not-one_each c).Start))) (sym c.cells.ensures) ∙ sym c.one_each.ensures
    ∙ c.if-not-one_each.false

pub chart-requires : goal.chart-requires
chart-requires c =
    surveyable (setup (goal.at.chart-requires c).Start) (fits (goal.at.chart-requires c).Else-not-fits) (each (goal.at.chart-requires c).Else-not-one_each)

pub returns-in-Err : goal.returns-in-Err
returns-in-Err c =
    chart_refuses (setup (goal.at.returns-in-Err c).Start) (fits (goal.at.returns-in-Err c).Else-not-fits) (each (goal.at.returns-in-Err c).Else-not-one_each) _ _ _ _ _ _
    (sym c.in-Err.is ∙ c.chart.ensures.verdict_is) (refused_not _ c.in-Err.why refl) c.wipe-in-Err.ensures

pub returns-in-Ok : goal.returns-in-Ok
returns-in-Ok c =
    chart_passes (setup (goal.at.returns-in-Ok c).Start) (fits (goal.at.returns-in-Ok c).Else-not-fits) (each (goal.at.returns-in-Ok c).Else-not-one_each) _ _ _ _ _ (rw c.in-Ok.is at c.chart.ensures)
