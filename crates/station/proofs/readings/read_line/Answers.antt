-- `readings::read_line` meets its contract: the tests on the numbers that were read are those of the paper's form.
use Rattle.std.proofs.Common.{sym, ◌∙◌}
use Rattle.theory.proofs.Cases.{cond_true, cond_false}
use Rattle.station.proofs.LineLaws.{turc_line_lem, jensen_haise_line_lem, line_broken, line_whole, read_length}
use Rattle.station.proofs.readings.read_line.Goals as goal

pub returns-in_default : goal.returns-in_default
returns-in_default c =
    (line_broken _ _ _ _ 0 c.requires c.read.ensures _ c.in_default.is, read_length _ _ _ _ 0 c.requires c.read.ensures)

pub returns-then-count-kind : goal.returns-then-count-kind
returns-then-count-kind c = (
  turc_line_lem _ _ _ c.celsius-mean.ensures c.reading.ensures c.reading-then-count-kind.ensures
      ∙ sym (cond_true _ c.if-count-kind.true _ _)
      ∙ line_whole _ _ _ _ _ c.requires c.read.ensures c.in-Ok.is,
  read_length _ _ _ _ 0 c.requires c.read.ensures,
)

pub returns-then-count-kind-2 : goal.returns-then-count-kind-2
returns-then-count-kind-2 c = (
  jensen_haise_line_lem _ _ c.celsius-mean-then-count-kind-2.ensures c.reading-then-count-kind-2.ensures
      ∙ sym (cond_false _ c.if-count-kind.false _ _ ∙ cond_true _ c.if-count-kind-2.true _ _)
      ∙ line_whole _ _ _ _ _ c.requires c.read.ensures c.in-Ok.is,
  read_length _ _ _ _ 0 c.requires c.read.ensures,
)

pub returns : goal.returns
returns c = (
  sym (cond_false _ c.if-count-kind.false _ _ ∙ cond_false _ c.if-count-kind-2.false _ _)
      ∙ line_whole _ _ _ _ _ c.requires c.read.ensures c.in-Ok.is,
  read_length _ _ _ _ 0 c.requires c.read.ensures,
)
