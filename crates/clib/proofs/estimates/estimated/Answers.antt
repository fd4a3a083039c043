-- `estimates::estimated` meets its contract: number, place and estimate are those of the answer, which is the paper's.
use Rattle.std.proofs.Common.{ap, ◌∙◌}
use Rattle.paper.specs.Radiation.{estimate_number, estimate_place, estimate_units}
use Rattle.clib.specs.Estimates.{estimate, estimate_given}
use Rattle.clib.proofs.estimates.estimated.Goals as goal

pub returns-in-Ok : goal.returns-in-Ok
unfolding estimate_given estimate_number estimate_place estimate_units
returns-in-Ok c = ap estimate_given (rw c.in-Ok.is at c.potential.ensures.0)

pub returns-in-Err : goal.returns-in-Err
unfolding estimate_given estimate_number estimate_place estimate_units
returns-in-Err c =
    ap (λ n. estimate n 0) (rw c.number.ensures.0 at c.numbered.ensures) ∙ ap estimate_given (rw c.in-Err.is at c.potential.ensures.0)
