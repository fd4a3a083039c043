-- `sheets::test_match` meets its contract: its three tests, one after another.
use Rattle.std.proofs.Common.{refl, sym, ◌∙◌}
use Rattle.desk.specs.Faults.{◌then◌, unless}
use Rattle.desk.specs.Sheets.{test_match}
use Rattle.desk.proofs.sheets.test_match.Goals as goal

pub returns-then-not-same_size : goal.returns-then-not-same_size
unfolding test_match ◌then◌ unless
returns-then-not-same_size c = rw (sym c.same_size.ensures ∙ c.if-not-same_size.true) refl

pub returns-then-not-same_corner : goal.returns-then-not-same_corner
unfolding test_match ◌then◌ unless
returns-then-not-same_corner c =
    rw (sym c.same_size.ensures ∙ c.if-not-same_size.false, sym c.same_corner.ensures ∙ c.if-not-same_corner.true) refl

pub returns-then-not-same_text : goal.returns-then-not-same_text
unfolding test_match ◌then◌ unless
returns-then-not-same_text c =
    rw (sym c.same_size.ensures ∙ c.if-not-same_size.false, sym c.same_corner.ensures ∙ c.if-not-same_corner.false, sym c.same_text.ensures ∙ c.if-not-same_text.true) refl

pub returns : goal.returns
unfolding test_match ◌then◌ unless
returns c =
    rw (sym c.same_size.ensures ∙ c.if-not-same_size.false, sym c.same_corner.ensures ∙ c.if-not-same_corner.false, sym c.same_text.ensures ∙ c.if-not-same_text.false) refl
