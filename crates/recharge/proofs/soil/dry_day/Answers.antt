-- `soil::dry_day` meets its contract: the loss is the paper's, and by its law no more than the soil, so that no difference is below zero.
use Rattle.std.proofs.Common.{refl, ◌-◌, arith}
use Rattle.paper.specs.Soil.{dry_day}
use Rattle.paper.proofs.RetentionLaws.{loss_soil}
use Rattle.recharge.proofs.soil.dry_day.Goals as goal

pub overflow_add-result : goal.overflow_add-result
overflow_add-result c =
    let a = c.args in
    omega (arith, c.loss-lost.ensures, loss_soil a.capacity.0 a.soil.0 (a.potential.0 - a.infiltration.0))

pub overflow_sub-result : goal.overflow_sub-result
overflow_sub-result c =
    let a = c.args in
    omega (arith, c.loss-lost.ensures, loss_soil a.capacity.0 a.soil.0 (a.potential.0 - a.infiltration.0))

pub returns : goal.returns
unfolding dry_day
returns c = rw c.loss-lost.ensures refl
