-- `wholes::whole` meets its contract: the word's number, or the one below all of nine digits.
use Rattle.grids.proofs.WholeLaws.{whole_meant}
use Rattle.grids.proofs.wholes.whole.Goals as goal

pub returns : goal.returns
returns c = whole_meant c.args.word.now c.number.ensures c.unwrap_or.ensures
