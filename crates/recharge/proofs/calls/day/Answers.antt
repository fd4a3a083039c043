-- `calls::day` meets its contract: what tests 1 and 2 or the survey refuse is refused by all ten tests; a setup that passed leaves the rest to its day.
use mathlib.Core.Bool.{true}
use mathlib.Core.Path.{◌≡◌, sym, ap, ◌∙◌}
use Rattle.paper.specs.Setup.{Setup, cells}
use Rattle.paper.specs.State.{State}
use Rattle.paper.specs.Refusals.{one_each}
use Rattle.paper.specs.Day.{Results}
use Rattle.records.specs.Grids.{setup_of}
use Rattle.records.specs.Past.{state_as}
use Rattle.records.specs.Days.{day_as}
use Rattle.records.specs.Answers.{results_as}
use Rattle.records.proofs.VerdictLaws.{accepted_back}
use Rattle.admission.proofs.TestLaws.{lent_passes}
use Rattle.recharge.specs.Surveyed.{lent_lengths}
use Rattle.recharge.proofs.SurveyedLaws.{surveyed_ready, lent_refuses, survey_refuses}
use Rattle.std.proofs.Common.{rules}
use Rattle.std.specs.Prelude.{Ok, Err}
use Rattle.recharge.proofs.calls.day.Goals.{After-lent_verdict}
use Rattle.recharge.proofs.calls.day.Goals as goal

-- what was handed over, as the paper's
module _ (c : goal.After-lent_verdict) where
  abbrev setup : Setup
  setup =
      setup_of c.args.setup.now

  abbrev state : State
  state = state_as c.args.soil.now c.args.snow.now c.args.past.now

  abbrev results : Results
  results =
      results_as c.args.intercepted.now c.args.outflow.now c.args.evapotranspired.now c.args.recharged.now c.args.rejected.now

  -- the stores and the results have one entry a cell
  each : c.lent_verdict.result ≡ Ok tt → one_each (cells setup) (lent_lengths state results) ≡ true
  each lent = lent_passes _ _ (accepted_back _ (sym lent ∙ c.lent_verdict.ensures))

pub returns-in_err-lent_verdict : goal.returns-in_err-lent_verdict
returns-in_err-lent_verdict c =
    let s = (goal.at.returns-in_err-lent_verdict c).After-lent_verdict in
    let why = c.in_err-lent_verdict.field-0.0 in
    let same : c.from_residual.result ≡ Err why = search rules in
    rw same (lent_refuses (setup s) (state s) (results s) (day_as c.args.day) why (sym c.in_err-lent_verdict.was ∙ c.lent_verdict.ensures))

pub returns-in_err-survey : goal.returns-in_err-survey
returns-in_err-survey c =
    let s = (goal.at.returns-in_err-survey c).After-lent_verdict in
    let why = c.in_err-survey.field-0.0 in
    let same : c.from_residual-in_err-survey.result ≡ Err why = search rules in
    rw same
    (survey_refuses (setup s) (state s) (results s) (day_as c.args.day) why (each s c.in_ok-lent_verdict.was) (sym c.in_err-survey.was ∙ c.survey.ensures.verdict_is))

pub surveyed_day-requires : goal.surveyed_day-requires
surveyed_day-requires c =
    let passed = accepted_back _ (sym c.in_ok-survey.was ∙ c.survey.ensures.verdict_is) in
    record {
      direction = c.args.setup.now.direction.now;
      cover = c.args.setup.now.cover.now;
      group = c.args.setup.now.group.now;
      ready =
          let s = (goal.at.surveyed_day-requires c).After-lent_verdict in
          surveyed_ready (setup s) (state s) (results s) passed (c.survey.ensures.mapped passed) (each s c.in_ok-lent_verdict.was);
    }

pub returns : goal.returns
returns c =
    let s = (goal.at.returns c).After-lent_verdict in
    let passed = accepted_back _ (sym c.in_ok-survey.was ∙ c.survey.ensures.verdict_is) in
    c.surveyed_day.ensures.is c.args.setup.now.direction.now c.args.setup.now.cover.now c.args.setup.now.group.now
    (surveyed_ready (setup s) (state s) (results s) passed (c.survey.ensures.mapped passed) (each s c.in_ok-lent_verdict.was))
