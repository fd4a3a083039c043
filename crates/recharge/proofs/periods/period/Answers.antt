-- `periods::period` meets its contract: refused by tests 1 to 6, nothing has changed; else the days have the fresh state and lists that fit.
use mathlib.Core.Path.{◌≡◌, refl, sym, ap, ◌∙◌}
use Prim.Native.Nat.{ℕ}
use lib.ListN.{length}
use Rattle.paper.specs.Setup.{Setup, cells_of}
use Rattle.paper.specs.Refusals.{grid, lent, accepted, refused}
use Rattle.paper.specs.Day.{Fresh}
use Rattle.records.specs.Grids.{grid_as, setup_of}
use Rattle.records.specs.Verdicts.{refusal_as, verdict_as}
use Rattle.records.specs.declared.verdicts.Refusal.{Refusal}
use Rattle.records.specs.declared.past.Past.{Past}
use Rattle.std.specs.Prelude.{Result}
use Rattle.records.specs.Answers.{fresh_as}
use Rattle.recharge.specs.Period.{lists_fit}
use Rattle.recharge.proofs.OpeningLaws.{few_cells, lists_sized, grid_refuses, lists_refuse, opens_as, fresh_kept, fresh_is, setup_passed, unopened, opened}
use Rattle.recharge.proofs.periods.period.Goals.{Start, After-lists_fit, After-fresh}
use Rattle.recharge.proofs.periods.period.Goals as goal

abbrev setup : goal.Start → Setup
setup c =
    setup_of c.args.setup.now

pub returns-then-not-fits : goal.returns-then-not-fits
returns-then-not-fits c =
    let s = setup (goal.at.returns-then-not-fits c).Start in
    unopened s c.args.days.now _ _ _ _ grid
    (grid_refuses s _ _ _ (sym c.fits.ensures ∙ c.if-not-fits.true))
    _ (ap verdict_as c.unbegun.ensures.0) c.unbegun.ensures.1 c.unbegun.ensures.2 _ _ refl refl

pub lists_fit-requires : goal.lists_fit-requires
lists_fit-requires c = rw c.cells.ensures (few_cells _ (sym c.fits.ensures ∙ c.if-not-fits.false))

-- what the test of the lists says of them
listing : (c : goal.After-lists_fit)
    → c.lists_fit.result ≡ lists_fit (cells_of (grid_as c.args.setup.now.grid)) (length c.args.days.now) (length c.args.sums.now) (length c.args.totals.now)
listing c =
    c.lists_fit.ensures
    ∙ ap (λ (n : ℕ). lists_fit n (length c.args.days.now) (length c.args.sums.now) (length c.args.totals.now)) c.cells.ensures

pub returns-then-not-lists_fit : goal.returns-then-not-lists_fit
returns-then-not-lists_fit c =
    let s = setup (goal.at.returns-then-not-lists_fit c).Start in
    unopened s c.args.days.now _ _ _ _ lent
    (lists_refuse s _ _ _ (sym c.fits.ensures ∙ c.if-not-fits.false)
    (sym (listing (goal.at.returns-then-not-lists_fit c).After-lists_fit) ∙ c.if-not-lists_fit.true))
    _ (ap verdict_as c.unbegun-then-not-lists_fit.ensures.0) c.unbegun-then-not-lists_fit.ensures.1 c.unbegun-then-not-lists_fit.ensures.2 _ _ refl refl

-- what the fresh state answers
abbrev answer : goal.After-fresh → Fresh
answer c = fresh_as c.fresh.result c.fresh.new.soil c.fresh.new.snow

pub returns-in-Err : goal.returns-in-Err
returns-in-Err c =
    let s = setup (goal.at.returns-in-Err c).Start in
    let a = answer (goal.at.returns-in-Err c).After-fresh in
    let fit = sym (listing (goal.at.returns-in-Err c).After-lists_fit) ∙ c.if-not-lists_fit.false in
    let refused : a.verdict ≡ refused (refusal_as c.in-Err.why) = ap (λ (r : Result Past Refusal). (told r).verdict) c.in-Err.is in
    let kept = fresh_kept s _ _ _ fit a c.fresh.ensures _ refused in
    unopened s c.args.days.now _ _ _ _ (refusal_as c.in-Err.why)
    (opens_as s _ _ _ fit a c.fresh.ensures ∙ refused)
    _ (ap verdict_as c.unbegun-in-Err.ensures.0) c.unbegun-in-Err.ensures.1 c.unbegun-in-Err.ensures.2 _ _
    (ap (λ (r : Result Past Refusal). (told r).state.soil) (sym c.in-Err.is) ∙ kept.0)
    (ap (λ (r : Result Past Refusal). (told r).state.snow) (sym c.in-Err.is) ∙ kept.1)
  where
    told : Result Past Refusal → Fresh
    told r = fresh_as r c.fresh.new.soil c.fresh.new.snow

pub run-requires : goal.run-requires
run-requires c =
    let s = setup (goal.at.run-requires c).Start in
    let a = answer (goal.at.run-requires c).After-fresh in
    let fit = sym (listing (goal.at.run-requires c).After-lists_fit) ∙ c.if-not-lists_fit.false in
    let passed : a.verdict ≡ accepted = ap (λ (r : Result Past Refusal). (told r).verdict) c.in-Ok.is in
    let sizes = lists_sized _ _ _ _ fit in
    record {
      passed = setup_passed s _ _ _ fit a c.fresh.ensures passed;
      fresh = ap (λ (r : Result Past Refusal). (told r).state) (sym c.in-Ok.is) ∙ fresh_is s _ _ _ fit a c.fresh.ensures passed;
      sized = sizes.0;
      room = sizes.1;
    }
  where
    told : Result Past Refusal → Fresh
    told r = fresh_as r c.fresh.new.soil c.fresh.new.snow

pub returns-in-Ok : goal.returns-in-Ok
returns-in-Ok c =
    let s = setup (goal.at.returns-in-Ok c).Start in
    let a = answer (goal.at.returns-in-Ok c).After-fresh in
    let fit = sym (listing (goal.at.returns-in-Ok c).After-lists_fit) ∙ c.if-not-lists_fit.false in
    opened s c.args.days.now _ _ _ _
    (opens_as s _ _ _ fit a c.fresh.ensures ∙ ap (λ (r : Result Past Refusal). (fresh_as r c.fresh.new.soil c.fresh.new.snow).verdict) c.in-Ok.is) _ _ _ _ _ c.run.ensures
