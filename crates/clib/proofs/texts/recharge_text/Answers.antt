-- `texts::recharge_text` meets its contract: each case of the text's answer is counted.
use Rattle.clib.proofs.TextLaws.{told}
use Rattle.clib.proofs.texts.recharge_text.Goals as goal

pub returns : goal.returns
returns c = told _ _ _ _ _ c.unwrap_or.ensures c.balance_text.ensures
