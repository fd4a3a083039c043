-- `make` meets its contract: the text that is printed lies within its buffer.
use Rattle.std.proofs.Common.{sym, length-take-le}
use Rattle.desk.proofs.AnswerLaws.{text_within}
use Rattle.setup.proofs.make.Goals as goal

pub slice_bounds-output-end : goal.slice_bounds-output-end
slice_bounds-output-end g c = text_within _ _ _ _ _ c.setup_text.ensures c.in-Ok.is

pub slice_bounds-print-end-in-Ok : goal.slice_bounds-print-end-in-Ok
slice_bounds-print-end-in-Ok g c = sym (length-take-le _ _ (text_within _ _ _ _ _ c.setup_text.ensures c.in-Ok.is))
