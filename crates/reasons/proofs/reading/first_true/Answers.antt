-- `reading::first_true` meets its contract: test by test, each with those that failed before it.
use Rattle.std.proofs.Common.{ap, ◌∙◌}
use Rattle.reasons.specs.Whys.{because_as}
use Rattle.reasons.proofs.ReasonLaws.{told_open, told_snow, told_none, told_below, told_room, told_above, told_all}
use Rattle.reasons.proofs.reading.first_true.Goals as goal

pub returns-then-open_water : goal.returns-then-open_water
returns-then-open_water c recharged = ap because_as c.because.ensures ∙ told_open _ c.if-open_water.true

pub returns-then-snow-gt0 : goal.returns-then-snow-gt0
returns-then-snow-gt0 c recharged = ap because_as c.because-then-snow-gt0.ensures ∙ told_snow _ c.if-open_water.false c.if-water-eq0.true c.if-snow-gt0.true

pub returns-then-water-eq0 : goal.returns-then-water-eq0
returns-then-water-eq0 c recharged = ap because_as c.because-then-water-eq0.ensures ∙ told_none _ c.if-open_water.false c.if-water-eq0.true c.if-snow-gt0.false

pub returns-then-infiltration-potential : goal.returns-then-infiltration-potential
returns-then-infiltration-potential c recharged = ap because_as c.because-then-infiltration-potential.ensures ∙ told_below _ c.if-open_water.false c.if-water-eq0.false c.if-infiltration-potential.true

pub returns-then-surplus-room : goal.returns-then-surplus-room
returns-then-surplus-room c recharged =
    ap because_as c.because-then-surplus-room.ensures ∙ told_room _ c.if-open_water.false c.if-water-eq0.false c.if-infiltration-potential.false c.if-surplus-room.true

pub returns-then-largest-excess : goal.returns-then-largest-excess
returns-then-largest-excess c recharged =
    ap because_as c.because-then-largest-excess.ensures ∙ told_above _ c.if-open_water.false c.if-water-eq0.false c.if-infiltration-potential.false c.if-surplus-room.false c.if-largest-excess.true

pub returns : goal.returns
returns c recharged =
    ap because_as c.because-2.ensures ∙ told_all _ c.if-open_water.false c.if-water-eq0.false c.if-infiltration-potential.false c.if-surplus-room.false c.if-largest-excess.false
