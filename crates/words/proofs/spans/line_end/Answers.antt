-- `spans::line_end` meets its contract: the search for a line feed ends where the line does.
use Rattle.words.proofs.WordLaws.{next_line}
use Rattle.words.proofs.spans.line_end.Goals as goal

pub returns : goal.returns
returns c = next_line _ _ _ c.search.ensures
