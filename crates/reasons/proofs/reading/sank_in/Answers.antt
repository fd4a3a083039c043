-- `reading::sank_in` meets its contract: four numbers of 32 bits and one less.
use Rattle.std.proofs.Common.{rules}
use Rattle.reasons.specs.Reading.{infiltration_from}
use Rattle.reasons.proofs.reading.sank_in.Goals as goal

pub returns : goal.returns
unfolding infiltration_from
returns c = (search rules, search rules)
