-- `tests::day_verdict` meets its contract: each way out is the verdict of tests 7 to 10 up to there.
use Rattle.std.proofs.Common.{Err, rules, refl, true, ◌≡◌, sym, ap, ◌∙◌}
use Rattle.paper.specs.State.{day_fits, follows}
use Rattle.paper.proofs.RefusalLaws.{accepted_then}
use Rattle.records.specs.Days.{day_as}
use Rattle.records.specs.Past.{last_as}
use Rattle.records.specs.Verdicts.{verdict_in}
use Rattle.records.proofs.VerdictLaws.{refused_not, accepted_back}
use Rattle.admission.proofs.TestLaws.{stands, day_bad, serial_bad, record_good}
use Rattle.admission.proofs.tests.day_verdict.Goals.{Else-not-fits, Else-not-is_followed_by}
use Rattle.admission.proofs.tests.day_verdict.Goals as goal

pub returns-then-not-fits : goal.returns-then-not-fits
returns-then-not-fits c = (
  c.lay_plots.ensures,
  ap verdict_in (sym (day_bad _ _ _ _ _ _ _ _ _ (sym c.fits.ensures ∙ c.if-not-fits.true))),
)

-- the record is within its limits
within : (c : goal.Else-not-fits) → day_fits (day_as c.args.day) ≡ true
within c = sym c.fits.ensures ∙ c.if-not-fits.false

pub returns-then-not-is_followed_by : goal.returns-then-not-is_followed_by
returns-then-not-is_followed_by c = (
  c.lay_plots.ensures,
  ap verdict_in (sym (serial_bad _ _ _ _ _ _ _ _ _ (within (goal.at.returns-then-not-is_followed_by c).Else-not-fits) (sym c.is_followed_by.ensures ∙ c.if-not-is_followed_by.true))),
)

-- and its serial follows
serial : (c : goal.Else-not-is_followed_by) → follows (last_as c.args.past.last)
    c.args.day.serial ≡ true
serial c = sym c.is_followed_by.ensures ∙ c.if-not-is_followed_by.false

pub returns-in_err-state_verdict : goal.returns-in_err-state_verdict
returns-in_err-state_verdict c =
    let why = c.in_err-state_verdict.field-0.0 in
    let same : c.from_residual.result ≡ Err why = search rules in (
      c.lay_plots.ensures,
      rw same (stands _ _ _ (sym c.in_err-state_verdict.was ∙ c.state_verdict.ensures) (refused_not _ why refl))
          ∙ ap verdict_in (sym (record_good _ _ _ _ _ _ _ _ _ (within (goal.at.returns-in_err-state_verdict c).Else-not-fits) (serial (goal.at.returns-in_err-state_verdict c).Else-not-is_followed_by))),
    )

pub returns : goal.returns
returns c = (
  c.lay_plots.ensures,
  c.snow_verdict.ensures
      ∙ ap verdict_in (sym (record_good _ _ _ _ _ _ _ _ _ (within (goal.at.returns c).Else-not-fits) (serial (goal.at.returns c).Else-not-is_followed_by)
      ∙ accepted_then _ _ (accepted_back _ (sym c.in_ok-state_verdict.was ∙ c.state_verdict.ensures)))),
)
