-- `states::state_verdict` meets its contract: each way out is the verdict of the tests up to there.
use Rattle.std.proofs.Common.{true, ◌&&◌, List, [], ◌∷◌, refl, eqb, ◌≡◌, sym, ap, ◌∙◌, ℕ, arith, length}
use Rattle.paper.specs.Setup.{cells_of, grid_fits}
use Rattle.paper.specs.Refusals.{one_each}
use Rattle.records.specs.Grids.{grid_as}
use Rattle.records.specs.Verdicts.{verdict_in}
use Rattle.records.specs.declared.verdicts.Refusal.TheVariants as refusals
use Rattle.std.specs.Prelude.{Err}
use Rattle.records.proofs.PlaceLaws.{found_at, found_no}
use Rattle.stores.proofs.StateLaws.{few_cells, three_each, grid_bad, lent_bad, store_bad, past_bad, state_good}
use Rattle.stores.proofs.states.state_verdict.Goals.{After-one_each, Else-not-one_each, Else-not-fits, Start}
use Rattle.stores.proofs.states.state_verdict.Goals as goal

pub returns-then-not-fits : goal.returns-then-not-fits
returns-then-not-fits c = sym (ap verdict_in (grid_bad _ _ _ _ _ _ _ (sym c.fits.ensures ∙ c.if-not-fits.true)))

-- the grid fits
fits : (c : goal.Else-not-fits) → grid_fits (grid_as c.args.grid) ≡ true
fits c = sym c.fits.ensures ∙ c.if-not-fits.false

-- and the lengths are tested
abbrev lengths : goal.Start → List ℕ
lengths s = length s.args.available.now ∷ length s.args.soil.now ∷ length s.args.snow.now ∷ []

each_is : (c : goal.After-one_each) → c.one_each.result ≡ one_each (cells_of (grid_as c.args.grid)) (lengths (goal.at.After-one_each c).Start)
each_is c = c.one_each.ensures ∙ ap (λ (n : ℕ). one_each n (lengths (goal.at.After-one_each c).Start)) c.cells-n.ensures

pub returns-then-not-one_each : goal.returns-then-not-one_each
returns-then-not-one_each c =
    sym (ap verdict_in (lent_bad _ _ _ _ _ _ _ (fits (goal.at.returns-then-not-one_each c).Else-not-fits) (sym (each_is (goal.at.returns-then-not-one_each c).After-one_each) ∙ c.if-not-one_each.true)))

-- each slice has one entry a cell
each : (c : goal.Else-not-one_each) → one_each (cells_of (grid_as c.args.grid)) (lengths (goal.at.Else-not-one_each c).Start) ≡ true
each c = sym (each_is (goal.at.Else-not-one_each c).After-one_each) ∙ c.if-not-one_each.false

pub bad_store-store-requires : goal.bad_store-store-requires
bad_store-store-requires c =
    let few = few_cells _ (fits (goal.at.bad_store-store-requires c).Else-not-fits) in
    let all = three_each _ _ _ _ (each (goal.at.bad_store-store-requires c).Else-not-one_each) in
    (omega (arith, few, all.0), all.1 ∙ sym all.0, all.2 ∙ sym all.0)

pub returns-in-Some : goal.returns-in-Some
returns-in-Some c =
    sym (ap verdict_in (store_bad _ _ _ _ _ _ _ (fits (goal.at.returns-in-Some c).Else-not-fits) (each (goal.at.returns-in-Some c).Else-not-one_each) _
    (found_at _ _ (sym c.in-Some.is ∙ c.bad_store-store.ensures))))

pub returns-then-not-fits-2 : goal.returns-then-not-fits-2
returns-then-not-fits-2 c =
    ap (λ (n : ℕ). Err (refusals.StateAt n)) c.cells-n.ensures
    ∙ sym (ap verdict_in (past_bad _ _ _ _ _ _ _ (fits (goal.at.returns-then-not-fits-2 c).Else-not-fits) (each (goal.at.returns-then-not-fits-2 c).Else-not-one_each)
    (found_no _ (sym c.in_default.is ∙ c.bad_store-store.ensures)) (sym c.fits-2.ensures ∙ c.if-not-fits-2.true)))

pub returns : goal.returns
returns c =
    sym (ap verdict_in (state_good _ _ _ _ _ _ _ (fits (goal.at.returns c).Else-not-fits) (each (goal.at.returns c).Else-not-one_each)
    (found_no _ (sym c.in_default.is ∙ c.bad_store-store.ensures)) (sym c.fits-2.ensures ∙ c.if-not-fits-2.false)))
