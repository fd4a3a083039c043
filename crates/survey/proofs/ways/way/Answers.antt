-- `ways::way` meets its contract: a byte that is none of the eight stays, and any other takes both of its steps.
use Rattle.std.proofs.Common.{◌≡◌, refl, ap, sym, ◌∙◌, ℕ, ◌/◌, ◌%◌, ◌≤◌, ◌<◌, ne_eqb, arith}
use native.Mathlib.Omega.{by_contra}
use Rattle.paper.specs.Directions.{Way, toward, closed}
use Rattle.paper.specs.Setup.{pointed}
use Rattle.survey.specs.Ways.{goes_from, step_of, way_as}
use Rattle.survey.proofs.DirectionLaws.{pointed_closed}
use Rattle.survey.proofs.ways.way.Goals as goal

below_twelve : (k : ℕ) → k ≤ 12 → (k ≡ 12 → ⊥) → k ≤ 11
below_twelve k h not = by_contra _ _ (λ (l : 11 < k). not (omega arith))

-- closed, or the two steps
at_twelve : {k : ℕ} {w : Way} → k ≡ 12 → way_as k ≡ w → w ≡ closed
unfolding way_as
at_twelve e known = sym known ∙ ap way_as e

both_steps : (k : ℕ) {w : Way} → (k ≡ 12 → ⊥) → way_as k ≡ w → w ≡ toward (step_of (k / 4)) (step_of (k % 4))
unfolding way_as
both_steps k not known = sym known ∙ rw (ne_eqb k 12 not) refl

pub returns-then-both-eq-NO_STEP : goal.returns-then-both-eq-NO_STEP
returns-then-both-eq-NO_STEP c =
    let a = c.args in
    sym (ap (λ w. pointed (goes_from a.width a.height a.row a.column w)) (at_twelve c.if-both-eq-NO_STEP.true c.steps-both.ensures.0)
    ∙ pointed_closed a.width a.height a.row a.column)

pub toward-requires : goal.toward-requires
toward-requires c =
    let p = c.requires in
    let e = c.steps-both.ensures in
    let low : c.steps-both.result ≤ 11 = below_twelve _ e.1 c.if-both-eq-NO_STEP.false in
    (p.0, p.1, p.2, omega arith, e.2)

pub returns : goal.returns
unfolding goes_from
returns c =
    let a = c.args in
    c.toward.ensures
    ∙ ap (λ w. pointed (goes_from a.width a.height a.row a.column w)) (sym (both_steps _ c.if-both-eq-NO_STEP.false c.steps-both.ensures.0))
