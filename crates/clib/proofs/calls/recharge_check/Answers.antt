-- `calls::recharge_check` meets its contract: the library's verdict is the paper's, whose place fits 32 bits.
use Rattle.std.proofs.Common.{ap, ◌∙◌}
use Rattle.paper.specs.Day.{check_of}
use Rattle.records.specs.Verdicts.{verdict_as}
use Rattle.records.proofs.VerdictLaws.{verdict_back}
use Rattle.clib.specs.Numbers.{returned, told}
use Rattle.clib.proofs.PlaceLaws.{setup_near, near_fits}
use Rattle.clib.proofs.HandedLaws.{told_near}
use Rattle.clib.proofs.calls.recharge_check.Goals as goal

pub returns : goal.returns
unfolding check_of
returns c =
    c.returned_as.ensures
    ∙ ap told (ap verdict_as c.check.ensures ∙ verdict_back _)
    ∙ told_near _ (near_fits (setup_near _ _))
    ∙ ap returned (ap check_of c.setup_given-setup.ensures)
