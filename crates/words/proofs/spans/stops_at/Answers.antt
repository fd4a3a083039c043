-- `spans::stops_at` meets its contract: each kind by its own test.
use Rattle.words.specs.Spans.{stops_at}
use Rattle.words.proofs.spans.stops_at.Goals as goal

pub returns-in-WordByte : goal.returns-in-WordByte
unfolding stops_at
returns-in-WordByte c = cc

pub returns-in-Blank : goal.returns-in-Blank
unfolding stops_at
returns-in-Blank c = cc

pub returns-in-LineFeed : goal.returns-in-LineFeed
unfolding stops_at
returns-in-LineFeed c = cc
