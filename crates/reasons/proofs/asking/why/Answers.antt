-- `asking::why` meets its contract: refused by tests 1 and 2 before the day; by the day's own verdict, or as a cell outside the grid; or told, by what the day left of
-- the cell in the arrays of which it was lent the fronts.
use Rattle.std.proofs.Common.{true, rules, List, [], ◌∷◌, ◌≡◌, sym, ap, ◌∙◌, ℕ, ◌≤◌, ◌<◌, lt_of_lt_of_le, arith, length, get_or, take, replicate, length-take-le}
use Rattle.paper.specs.Setup.{Setup, cells_of, grid_fits}
use Rattle.paper.specs.State.{State, Day}
use Rattle.paper.specs.Refusals.{accepted, one_each}
use Rattle.paper.specs.Day.{Results, Outcome, day_of}
use Rattle.paper.specs.Reasons.{explained}
use Rattle.records.specs.Grids.{grid_as, setup_of}
use Rattle.records.specs.Past.{state_as}
use Rattle.records.specs.Days.{day_as}
use Rattle.records.specs.Verdicts.{verdict_as}
use Rattle.records.specs.Answers.{results_as}
use Rattle.reasons.specs.Reading.{facts_from}
use Rattle.reasons.specs.Asked.{asked_of}
use Rattle.records.proofs.AnswerLaws.{told, told_is}
use Rattle.admission.proofs.TestLaws.{two_each}
use Rattle.stores.proofs.StateLaws.{few_cells}
use Rattle.reasons.proofs.WhyLaws.{five, zeros_room, zeros_each, why_grid, why_lent, why_refused, why_told, day_accepted, cell_lent, left_is}
use Rattle.records.specs.declared.grids.Grid.{Grid}
use Rattle.std.specs.Prelude.{Ok, Err}
use Rattle.reasons.proofs.asking.why.Goals.{After-copied-lying, After-asked}
use Rattle.reasons.proofs.asking.why.Goals as goal

-- what tests 1 and 2 have shown: how many cells the code counts, that they are few, and that each store has one entry a cell
record Passed (cells n : ℕ) (soil snow : List ℕ) : Type 0 where
  pub count : n ≡ cells
  pub few : cells ≤ 4096
  pub soils : length soil ≡ cells
  pub snows : length snow ≡ cells

passed : (grid : Grid) (n : ℕ) (soil snow : List ℕ) → grid_fits (grid_as grid) ≡ true → n ≡ cells_of (grid_as grid)
    → one_each n (length soil ∷ length snow ∷ []) ≡ true → Passed (cells_of (grid_as grid)) n soil snow
passed grid n soil snow fits count each =
    let sized = two_each _ _ _ [] (ap (λ (k : ℕ). one_each k (length soil ∷ length snow ∷ [])) (sym count) ∙ each) in
    record { count = count; few = few_cells _ fits; soils = sized.0; snows = sized.1 }

-- so many entries fit at the fronts of the arrays
module _ (c : goal.After-copied-lying) where
  shown : Passed (cells_of (grid_as c.args.setup.now.grid)) c.cells-n.result c.args.soil.now c.args.snow.now
  shown =
      passed _ _ _ _ (sym c.fits.ensures ∙ c.if-not-fits.false) c.cells-n.ensures (sym c.one_each.ensures ∙ c.if-not-one_each.false)

  fronts : c.cells-n.result ≤ length (replicate {A = ℕ} 4096 0)
  fronts = zeros_room c.cells-n.result (rw shown.count shown.few)

  held_front : c.cells-n.result ≤ length c.copied-held.result
  held_front = rw (shown.count ∙ sym shown.soils) c.copied-held.ensures.room

  lying_front : c.cells-n.result ≤ length c.copied-lying.result
  lying_front = rw (shown.count ∙ sym shown.snows) c.copied-lying.ensures.room

-- what was handed over, as the paper's; what the day was lent, and what it left; its verdict with the cell asked about
module _ (c : goal.After-asked) where
  abbrev s : Setup
  s =
      setup_of c.args.setup.now

  abbrev st : State
  st = state_as c.args.soil.now c.args.snow.now c.args.past

  abbrev d : Day
  d = day_as c.args.day

  abbrev n : ℕ
  n = c.cells-n.result

  stand : Passed (cells_of (grid_as c.args.setup.now.grid)) n c.args.soil.now c.args.snow.now
  stand =
      passed _ _ _ _ (sym c.fits.ensures ∙ c.if-not-fits.false) c.cells-n.ensures (sym c.one_each.ensures ∙ c.if-not-one_each.false)

  lent : state_as (take n c.copied-held.result) (take n c.copied-lying.result) c.args.past ≡ st
  lent =
      let soil : take n c.copied-held.result ≡ c.args.soil.now
      = ap (λ (k : ℕ). take k c.copied-held.result) (stand.count ∙ sym stand.soils) ∙ c.copied-held.ensures.same in
      let snow : take n c.copied-lying.result ≡ c.args.snow.now
      = ap (λ (k : ℕ). take k c.copied-lying.result) (stand.count ∙ sym stand.snows) ∙ c.copied-lying.ensures.same in
      (λ k. state_as (soil k) (snow k) c.args.past)

  -- no results before it
  abbrev none : Results
  none = let part = take n (replicate {A = ℕ} 4096 0) in results_as part part part part part

  none_each : one_each (cells_of (grid_as c.args.setup.now.grid)) (five none) ≡ true
  none_each = rw (sym stand.count) (zeros_each n (rw stand.count stand.few))

  abbrev left : Outcome
  left =
      let new = c.day-answer.new in
      told c.day-answer.result new.soil new.snow new.past
      (results_as new.intercepted new.outflow new.evapotranspired new.recharged new.rejected)

  outcome : left ≡ day_of s st none d
  outcome = told_is c.day-answer.result _ _ _ _ ∙ c.day-answer.ensures ∙ ap (λ (st : State). day_of s st none d) lent

  asked_is : verdict_as c.asked.result ≡ asked_of (cells_of (grid_as c.args.setup.now.grid)) c.args.cell (day_of s st none d).verdict
  asked_is =
      c.asked.ensures
      ∙ ap (asked_of (cells_of (grid_as c.args.setup.now.grid)) c.args.cell) c.verdict_of.ensures
      ∙ ap (λ (o : Outcome). asked_of (cells_of (grid_as c.args.setup.now.grid)) c.args.cell o.verdict) outcome

  -- where it accepts, the cell is in the grid
  module _ (taken : c.asked.result ≡ Ok tt) where
    accepts : asked_of (cells_of (grid_as c.args.setup.now.grid)) c.args.cell (day_of s st none d).verdict ≡ accepted
    accepts = sym asked_is ∙ ap verdict_as taken

    inside : c.args.cell < cells_of (grid_as c.args.setup.now.grid)
    inside = (day_accepted s st d c.args.cell none none_each accepts).0

    small : c.args.cell < 4096
    small = lt_of_lt_of_le inside stand.few

pub returns-then-not-fits : goal.returns-then-not-fits
returns-then-not-fits c =
    why_grid
    (setup_of c.args.setup.now) (state_as c.args.soil.now c.args.snow.now c.args.past) (day_as c.args.day) c.args.cell
    (sym c.fits.ensures ∙ c.if-not-fits.true)

pub returns-then-not-one_each : goal.returns-then-not-one_each
returns-then-not-one_each c =
    why_lent
    (setup_of c.args.setup.now) (state_as c.args.soil.now c.args.snow.now c.args.past) (day_as c.args.day) c.args.cell
    (sym c.fits.ensures ∙ c.if-not-fits.false)
    (ap (λ (k : ℕ). one_each k (length c.args.soil.now ∷ length c.args.snow.now ∷ [])) (sym c.cells-n.ensures)
    ∙ sym c.one_each.ensures ∙ c.if-not-one_each.true)

pub copied-held-requires : goal.copied-held-requires
copied-held-requires c =
    let p = passed _ _ _ _ (sym c.fits.ensures ∙ c.if-not-fits.false) c.cells-n.ensures (sym c.one_each.ensures ∙ c.if-not-one_each.false) in
    rw p.soils p.few

pub copied-lying-requires : goal.copied-lying-requires
copied-lying-requires c =
    let p = passed _ _ _ _ (sym c.fits.ensures ∙ c.if-not-fits.false) c.cells-n.ensures (sym c.one_each.ensures ∙ c.if-not-one_each.false) in
    rw p.snows p.few

pub slice_bounds-held-end : goal.slice_bounds-held-end
slice_bounds-held-end c = held_front (goal.at.slice_bounds-held-end c).After-copied-lying

pub slice_bounds-day-end : goal.slice_bounds-day-end
slice_bounds-day-end c = sym (length-take-le _ _ (held_front (goal.at.slice_bounds-day-end c).After-copied-lying))

pub slice_bounds-lying-end : goal.slice_bounds-lying-end
slice_bounds-lying-end c = lying_front (goal.at.slice_bounds-lying-end c).After-copied-lying

pub slice_bounds-day-end-2 : goal.slice_bounds-day-end-2
slice_bounds-day-end-2 c = sym (length-take-le _ _ (lying_front (goal.at.slice_bounds-day-end-2 c).After-copied-lying))

pub slice_bounds-intercepted-end : goal.slice_bounds-intercepted-end
slice_bounds-intercepted-end c = fronts (goal.at.slice_bounds-intercepted-end c).After-copied-lying

pub slice_bounds-day-end-3 : goal.slice_bounds-day-end-3
slice_bounds-day-end-3 c = sym (length-take-le _ _ (fronts (goal.at.slice_bounds-day-end-3 c).After-copied-lying))

pub slice_bounds-outflow-end : goal.slice_bounds-outflow-end
slice_bounds-outflow-end c = fronts (goal.at.slice_bounds-outflow-end c).After-copied-lying

pub slice_bounds-day-end-4 : goal.slice_bounds-day-end-4
slice_bounds-day-end-4 c = sym (length-take-le _ _ (fronts (goal.at.slice_bounds-day-end-4 c).After-copied-lying))

pub slice_bounds-evapotranspired-end : goal.slice_bounds-evapotranspired-end
slice_bounds-evapotranspired-end c = fronts (goal.at.slice_bounds-evapotranspired-end c).After-copied-lying

pub slice_bounds-day-end-5 : goal.slice_bounds-day-end-5
slice_bounds-day-end-5 c = sym (length-take-le _ _ (fronts (goal.at.slice_bounds-day-end-5 c).After-copied-lying))

pub slice_bounds-recharged-end : goal.slice_bounds-recharged-end
slice_bounds-recharged-end c = fronts (goal.at.slice_bounds-recharged-end c).After-copied-lying

pub slice_bounds-day-end-6 : goal.slice_bounds-day-end-6
slice_bounds-day-end-6 c = sym (length-take-le _ _ (fronts (goal.at.slice_bounds-day-end-6 c).After-copied-lying))

pub slice_bounds-rejected-end : goal.slice_bounds-rejected-end
slice_bounds-rejected-end c = fronts (goal.at.slice_bounds-rejected-end c).After-copied-lying

pub slice_bounds-day-end-7 : goal.slice_bounds-day-end-7
slice_bounds-day-end-7 c = sym (length-take-le _ _ (fronts (goal.at.slice_bounds-day-end-7 c).After-copied-lying))

pub returns-in_err-asked : goal.returns-in_err-asked
returns-in_err-asked c =
    let day = (goal.at.returns-in_err-asked c).After-asked in
    let why = c.in_err-asked.field-0.0 in
    let same : c.from_residual.result ≡ Err why = search rules in
    rw same (why_refused (s day) (st day) (d day) c.args.cell (none day) (none_each day) _ (sym (asked_is day) ∙ ap verdict_as c.in_err-asked.was))

pub left_at-left-requires : goal.left_at-left-requires
left_at-left-requires c = small (goal.at.left_at-left-requires c).After-asked c.in_ok-asked.was

pub ground_at-ground-requires : goal.ground_at-ground-requires
ground_at-ground-requires c =
    let day = (goal.at.ground_at-ground-requires c).After-asked in
    cell_lent (s day) (st day) (d day) c.args.cell (none day) (none_each day) (accepts day c.in_ok-asked.was)

pub offset_bounds-soil-cell : goal.offset_bounds-soil-cell
offset_bounds-soil-cell c = omega (arith, small (goal.at.offset_bounds-soil-cell c).After-asked c.in_ok-asked.was)

pub bounds-soil-cell : goal.bounds-soil-cell
bounds-soil-cell c =
    let day = (goal.at.bounds-soil-cell c).After-asked in
    rw (stand day).soils (inside day c.in_ok-asked.was)

pub returns : goal.returns
returns c =
    let day = (goal.at.returns c).After-asked in
    let taken = accepts day c.in_ok-asked.was in
    let ok = day_accepted (s day) (st day) (d day) c.args.cell (none day) (none_each day) taken in
    let ground = c.ground_at-ground.ensures in
    let stood = c.left_at-left.ensures ∙ left_is (s day) (st day) (none day) (d day) c.args.cell ok.1 ok.0 (left day) (outcome day) _ _ _ _ _ _ in
    c.first_true.ensures _
    ∙ ap explained c.facts_of.ensures
    ∙ (λ k. explained (facts_from (ground k) (d day).gross (d day).potential (get_or c.args.soil.now c.args.cell 0) (stood k)))
    ∙ why_told (s day) (st day) (d day) c.args.cell (none day) (none_each day) taken
