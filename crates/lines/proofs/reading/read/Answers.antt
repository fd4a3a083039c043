-- `reading::read` meets its contract: the test of the length decides whether the text is read.
use Rattle.lines.proofs.ReadingLaws.{read_short, read_none}
use Rattle.lines.proofs.reading.read.Goals as goal

pub returns-then-input-gt-MOST_BYTES : goal.returns-then-input-gt-MOST_BYTES
returns-then-input-gt-MOST_BYTES c = read_none c.args.input.now c.args.numbers.now c.if-input-gt-MOST_BYTES.true

pub returns : goal.returns
returns c = read_short c.args.input.now _ _ _ c.if-input-gt-MOST_BYTES.false c.gather.ensures
