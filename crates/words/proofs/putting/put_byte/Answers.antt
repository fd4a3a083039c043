-- `putting::put_byte` meets its contract: in the buffer, and past its end, where nothing is stored.
use Rattle.std.proofs.Common.{◌∙◌, sym}
use Rattle.words.proofs.WritingLaws.{none_stored}
use Rattle.words.proofs.putting.put_byte.Goals as goal
use Rattle.words.proofs.putting.put_byte.Goals.{then-at-buffer, else-at-buffer}

pub returns : goal.returns
returns c =
    record {
      buffer = elim c.if-at-buffer.branch [
        | then-at-buffer w ↦ w.buffer-is
        | else-at-buffer w ↦ w.buffer-is ∙ sym (none_stored _ _ _ w.if-at-buffer.false)
      ];
      end = c.saturating_add.ensures;
    }
