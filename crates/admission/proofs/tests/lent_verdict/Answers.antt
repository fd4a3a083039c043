-- `tests::lent_verdict` meets its contract: each way out is the verdict of tests 1 and 2 of the stores' and the results' lengths.
use Rattle.std.proofs.Common.{true, List, [], ◌∷◌, ◌≡◌, sym, ap, ◌∙◌, ℕ}
use Rattle.paper.specs.Setup.{cells_of, grid_fits}
use Rattle.paper.specs.Refusals.{one_each}
use Rattle.records.specs.Grids.{grid_as}
use Rattle.records.specs.Verdicts.{verdict_in}
use Rattle.admission.proofs.TestLaws.{no_grid, not_each, lent_good}
use Rattle.admission.proofs.tests.lent_verdict.Goals.{After-one_each, Else-not-fits, Start}
use Rattle.admission.proofs.tests.lent_verdict.Goals as goal

pub returns-then-not-fits : goal.returns-then-not-fits
returns-then-not-fits c = ap verdict_in (sym (no_grid _ _ (sym c.fits.ensures ∙ c.if-not-fits.true)))

-- the grid fits
fits : (c : goal.Else-not-fits) → grid_fits (grid_as c.args.grid) ≡ true
fits c = sym c.fits.ensures ∙ c.if-not-fits.false

abbrev lengths : goal.Start → List ℕ
lengths s =
    s.args.soil
    ∷ s.args.snow
    ∷ s.args.results.intercepted
    ∷ s.args.results.outflow
    ∷ s.args.results.evapotranspired
    ∷ s.args.results.recharged
    ∷ s.args.results.rejected
    ∷ []

each_is : (c : goal.After-one_each) → one_each (cells_of (grid_as c.args.grid)) (lengths (goal.at.After-one_each c).Start) ≡ c.one_each.result
each_is c = ap (λ (n : ℕ). one_each n (lengths (goal.at.After-one_each c).Start)) (sym c.cells-n.ensures) ∙ sym c.one_each.ensures

pub returns-then-not-one_each : goal.returns-then-not-one_each
returns-then-not-one_each c =
    ap verdict_in (sym (not_each _ _ (fits (goal.at.returns-then-not-one_each c).Else-not-fits)
    (each_is (goal.at.returns-then-not-one_each c).After-one_each ∙ c.if-not-one_each.true)))

pub returns : goal.returns
returns c =
    ap verdict_in (sym (lent_good _ _ (fits (goal.at.returns c).Else-not-fits)
    (each_is (goal.at.returns c).After-one_each ∙ c.if-not-one_each.false)))
