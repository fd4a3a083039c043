-- `answers::write_text` meets its contract: the text would end within the output, then not.
use Rattle.std.proofs.Common.{arith}
use Rattle.desk.proofs.AnswerLaws.{too_long, fitting}
use Rattle.desk.proofs.answers.write_text.Goals as goal

pub returns-then-output-end : goal.returns-then-output-end
returns-then-output-end c =
    too_long _ _ _ _ (omega arith) c.put_text-end.ensures (omega arith)

pub returns : goal.returns
returns c =
    fitting _ _ _ _ (omega arith) c.put_text-end.ensures c.if-output-end.false c.put_text.ensures
