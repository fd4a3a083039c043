-- `charts::chart` meets its contract: each way out has what the tests before it found, and where all pass the arrays are those of the setup.
use Rattle.std.proofs.Common.{Err, [], ◌∷◌, length, rules, ◌≡◌, sym, ◌∙◌}
use Rattle.paper.specs.Setup.{Setup}
use Rattle.paper.specs.Refusals.{verdict, accepted, cover_test}
use Rattle.records.specs.Grids.{setup_of}
use Rattle.records.proofs.VerdictLaws.{refused_not, accepted_back}
use Rattle.survey.proofs.SurveyLaws.{table_refuses, lay_ask, cell_refuses, order_ask, ring_refuses, climate_refuses, surveyed}
use Rattle.survey.proofs.charts.chart.Goals.{In_ok-read_covers, Start}
use Rattle.survey.proofs.charts.chart.Goals as goal

abbrev setup : goal.Start → Setup
setup s =
    setup_of s.args.setup.now

pub returns-in_err-read_covers : goal.returns-in_err-read_covers
returns-in_err-read_covers c =
    let why = c.in_err-read_covers.field-0.0 in
    let same : c.from_residual.result ≡ Err why = search rules in
    table_refuses (setup (goal.at.returns-in_err-read_covers c).Start) _ _ _ _ _ _ (same ∙ sym c.in_err-read_covers.was ∙ c.read_covers.ensures.verdict_is)
    (refused_not _ why same)

-- the table is accepted, and its index read
table : (t : goal.In_ok-read_covers) → verdict (cover_test t.args.setup.now.covers.now ∷ []) ≡ accepted
table t = accepted_back _ (sym t.in_ok-read_covers.was ∙ t.read_covers.ensures.verdict_is)

pub lay_cells-cell-requires : goal.lay_cells-cell-requires
lay_cells-cell-requires c =
    let slots_sized : length c.args.slots.now ≡ 4096 = search rules in
    let ways_sized : length c.args.ways.now ≡ 4096 = search rules in
    lay_ask (setup (goal.at.lay_cells-cell-requires c).Start) _ _ c.requires (table (goal.at.lay_cells-cell-requires c).In_ok-read_covers) _ (c.read_covers.ensures.indexed (table (goal.at.lay_cells-cell-requires c).In_ok-read_covers))
    slots_sized ways_sized

pub returns-in-Some : goal.returns-in-Some
returns-in-Some c =
    let slots_sized : length c.args.slots.now ≡ 4096 = search rules in
    let ways_sized : length c.args.ways.now ≡ 4096 = search rules in
    cell_refuses (setup (goal.at.returns-in-Some c).Start) _ _ c.requires (table (goal.at.returns-in-Some c).In_ok-read_covers) _ (c.read_covers.ensures.indexed (table (goal.at.returns-in-Some c).In_ok-read_covers))
    slots_sized ways_sized
    _ _ _ _ c.lay_cells-cell.ensures _ _ c.in-Some.is

pub put_in_order-ring-requires : goal.put_in_order-ring-requires
put_in_order-ring-requires c =
    let slots_sized : length c.args.slots.now ≡ 4096 = search rules in
    let ways_sized : length c.args.ways.now ≡ 4096 = search rules in
    order_ask (setup (goal.at.put_in_order-ring-requires c).Start) _ _ c.requires (table (goal.at.put_in_order-ring-requires c).In_ok-read_covers) _ (c.read_covers.ensures.indexed (table (goal.at.put_in_order-ring-requires c).In_ok-read_covers))
    slots_sized ways_sized
    _ _ _ _ c.lay_cells-cell.ensures c.in_default.is

pub returns-in-Some-ring : goal.returns-in-Some-ring
returns-in-Some-ring c =
    let slots_sized : length c.args.slots.now ≡ 4096 = search rules in
    let ways_sized : length c.args.ways.now ≡ 4096 = search rules in
    ring_refuses (setup (goal.at.returns-in-Some-ring c).Start) _ _ c.requires (table (goal.at.returns-in-Some-ring c).In_ok-read_covers) _ (c.read_covers.ensures.indexed (table (goal.at.returns-in-Some-ring c).In_ok-read_covers))
    slots_sized ways_sized
    _ _ _ _ c.lay_cells-cell.ensures c.in_default.is _ _ c.put_in_order-ring.ensures _ c.in-Some-ring.is

pub returns-then-not-fits : goal.returns-then-not-fits
returns-then-not-fits c =
    let slots_sized : length c.args.slots.now ≡ 4096 = search rules in
    let ways_sized : length c.args.ways.now ≡ 4096 = search rules in
    climate_refuses (setup (goal.at.returns-then-not-fits c).Start) _ _ c.requires (table (goal.at.returns-then-not-fits c).In_ok-read_covers) _ (c.read_covers.ensures.indexed (table (goal.at.returns-then-not-fits c).In_ok-read_covers))
    slots_sized ways_sized
    _ _ _ _ c.lay_cells-cell.ensures c.in_default.is _ _ c.put_in_order-ring.ensures c.in_default-ring.is
    (sym c.fits.ensures ∙ c.if-not-fits.true)

pub returns : goal.returns
returns c =
    let slots_sized : length c.args.slots.now ≡ 4096 = search rules in
    let ways_sized : length c.args.ways.now ≡ 4096 = search rules in
    surveyed (setup (goal.at.returns c).Start) _ _ c.requires (table (goal.at.returns c).In_ok-read_covers) _ (c.read_covers.ensures.indexed (table (goal.at.returns c).In_ok-read_covers))
    slots_sized ways_sized
    _ _ _ _ c.lay_cells-cell.ensures c.in_default.is _ _ c.put_in_order-ring.ensures c.in_default-ring.is
    (sym c.fits.ensures ∙ c.if-not-fits.false)
