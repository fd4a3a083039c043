-- `inches::put_four` meets its contract: four digits one after another.
use native.Mathlib.Omega.{arith}
use Rattle.words.proofs.InchesLaws.{four_put}
use Rattle.words.proofs.inches.put_four.Goals as goal

pub returns : goal.returns
returns c = four_put _ (omega arith) c.put_number-a.ensures c.put_number-b.ensures c.put_number-c.ensures c.put_number.ensures
