-- `numbers::is_digit` meets its contract.
use Rattle.words.specs.Numbers.{is_digit}
use Rattle.words.proofs.numbers.is_digit.Goals as goal

pub returns : goal.returns
unfolding is_digit
returns c = c.is_ascii_digit.ensures.value
