-- `ground::read_ground` meets its contract: the setup's text lies within the lent one.
use Rattle.std.proofs.Common.{sym, length-take-le}
use Rattle.desk.proofs.AnswerLaws.{text_within}
use Rattle.sheet.proofs.ground.read_ground.Goals as goal

pub slice_bounds-result-end : goal.slice_bounds-result-end
slice_bounds-result-end g c = sym (length-take-le _ _ (text_within _ _ _ _ _ c.setup_text.ensures c.in-Ok.is))
