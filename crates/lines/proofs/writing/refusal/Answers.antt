-- `writing::refusal` meets its contract: the refusal says its own number and place.
use Rattle.lines.specs.Lines.{refusal}
use Rattle.lines.proofs.writing.refusal.Goals as goal

pub returns : goal.returns
unfolding refusal
returns c =
    rw (c.units.ensures, c.place.ensures, c.wide.ensures, c.number.ensures.0) at c.refused.ensures
