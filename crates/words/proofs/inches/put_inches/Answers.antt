-- `inches::put_inches` meets its contract: the whole inches and the point, then four decimals.
use native.Mathlib.Omega.{arith}
use Rattle.words.proofs.InchesLaws.{inches_put}
use Rattle.words.proofs.inches.put_inches.Goals as goal

pub returns : goal.returns
returns c = inches_put _ (omega arith) (omega arith) c.put_item-point.ensures c.put_four.ensures
