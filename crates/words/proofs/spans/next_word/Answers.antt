-- `spans::next_word` meets its contract: the run after the blanks is the first word.
use Rattle.words.proofs.WordLaws.{next_word}
use Rattle.words.proofs.spans.next_word.Goals as goal

pub returns : goal.returns
returns c = next_word c.args.text.now _ _ _ c.search-start.ensures c.search-end.ensures
