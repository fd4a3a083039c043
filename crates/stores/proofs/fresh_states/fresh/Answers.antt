-- `fresh_states::fresh` meets its contract: refused, the lent stores stay as they were; accepted, every cell's soil is full.
use Rattle.std.proofs.Common.{Err, rules, true, ◌≡◌, List, [], ◌∷◌, sym, ap, ◌∙◌, refl, ℕ, length}
use Rattle.paper.specs.Setup.{Setup, cells, grid_fits}
use Rattle.paper.specs.Refusals.{grid, lent, accepted, one_each}
use Rattle.paper.specs.Day.{check_of}
use Rattle.records.proofs.VerdictLaws.{accepted_back}
use Rattle.records.specs.Grids.{setup_of}
use Rattle.survey.proofs.CallLaws.{grid_bad, more_bad}
use Rattle.stores.proofs.FreshLaws.{refused_fresh, survey_fresh, fill_ask, accepted_fresh}
use Rattle.stores.proofs.fresh_states.fresh.Goals.{Else-not-fits, Else-not-one_each, In_ok-survey, Start}
use Rattle.stores.proofs.fresh_states.fresh.Goals as goal

abbrev setup : goal.Start → Setup
setup s =
    setup_of s.args.setup.now

abbrev stores : goal.Start → List ℕ
stores s = length s.args.soil.now ∷ length s.args.snow.now ∷ []

pub returns-then-not-fits : goal.returns-then-not-fits
returns-then-not-fits c =
    let s = setup (goal.at.returns-then-not-fits c).Start in
    refused_fresh s _ _ grid (grid_bad s _ (sym c.fits.ensures ∙ c.if-not-fits.true))

-- the grid fits
fits : (c : goal.Else-not-fits) → grid_fits (setup (goal.at.Else-not-fits c).Start).grid ≡ true
fits c = sym c.fits.ensures ∙ c.if-not-fits.false

pub returns-then-not-one_each : goal.returns-then-not-one_each
returns-then-not-one_each c =
    let e = (goal.at.returns-then-not-one_each c).Start in
    refused_fresh (setup e) _ _ lent
    (more_bad (setup e) _ (fits (goal.at.returns-then-not-one_each c).Else-not-fits)
    (ap (λ (n : ℕ). one_each n (stores e)) (sym c.cells.ensures) ∙ sym c.one_each.ensures ∙ c.if-not-one_each.true))

-- and the stores have one entry a cell
each : (c : goal.Else-not-one_each) → one_each (cells (setup (goal.at.Else-not-one_each c).Start)) (stores (goal.at.Else-not-one_each c).Start) ≡ true
each c =
    ap (λ (n : ℕ). one_each n (stores (goal.at.Else-not-one_each c).Start)) (sym c.cells.ensures) ∙ sym c.one_each.ensures
    ∙ c.if-not-one_each.false

pub returns-in_err-survey : goal.returns-in_err-survey
returns-in_err-survey c =
    let why = c.in_err-survey.field-0.0 in
    let same : c.from_residual.result ≡ Err why = search rules in
    rw same
    (survey_fresh (setup (goal.at.returns-in_err-survey c).Start) _ _ (each (goal.at.returns-in_err-survey c).Else-not-one_each) why
    (sym c.in_err-survey.was ∙ c.survey.ensures.verdict_is))

-- the setup passes
passed : (c : goal.In_ok-survey) → check_of (setup (goal.at.In_ok-survey c).Start) ≡ accepted
passed c = accepted_back _ (sym c.in_ok-survey.was ∙ c.survey.ensures.verdict_is)

pub fill-requires : goal.fill-requires
fill-requires c =
    let a = c.args in
    fill_ask (setup (goal.at.fill-requires c).Start) a.soil.now a.snow.now (each (goal.at.fill-requires c).Else-not-one_each) (passed (goal.at.fill-requires c).In_ok-survey) _ _ _ _ _
    (c.survey.ensures.mapped (passed (goal.at.fill-requires c).In_ok-survey))

pub returns : goal.returns
returns c =
    accepted_fresh (setup (goal.at.returns c).Start) _ _ (each (goal.at.returns c).Else-not-one_each) (passed (goal.at.returns c).In_ok-survey) _ _ _ _ _ (c.survey.ensures.mapped (passed (goal.at.returns c).In_ok-survey)) _ _ _
    c.none.ensures c.fill.ensures
