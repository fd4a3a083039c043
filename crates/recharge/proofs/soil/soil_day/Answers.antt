-- `soil::soil_day` meets its contract: rule 7 where n ≥ E, else rule 8.
use Rattle.std.proofs.Common.{◌∙◌, sym}
use Rattle.paper.proofs.SoilLaws.{rule_7, rule_8}
use Rattle.recharge.proofs.soil.soil_day.Goals as goal

pub returns-then-e-n : goal.returns-then-e-n
returns-then-e-n c = c.wet_day.ensures ∙ sym (rule_7 _ _ _ _ _ c.if-e-n.true)

pub returns-else-e-n : goal.returns-else-e-n
returns-else-e-n c = c.dry_day.ensures ∙ sym (rule_8 _ _ _ _ _ c.if-e-n.false)
