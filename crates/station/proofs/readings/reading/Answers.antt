-- `readings::reading` meets its contract: a code past the negatives is that far below zero.
use lib.Ieee.{of_int}
use Rattle.paper.specs.Radiation.{whole, decimal}
use Rattle.station.proofs.LineLaws.{reading_below, reading_plain}
use Rattle.station.proofs.readings.reading.Goals as goal

pub returns-then-code-gt-NEGATIVES : goal.returns-then-code-gt-NEGATIVES
unfolding of_int whole decimal
returns-then-code-gt-NEGATIVES c = reading_below _ c.if-code-gt-NEGATIVES.true

pub returns : goal.returns
unfolding of_int whole decimal
returns c = reading_plain _ c.if-code-gt-NEGATIVES.false
