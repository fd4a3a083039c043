-- The measure is the number, which is more than its tenth part from 10 on.
use Rattle.words.proofs.putting.+put_number.Given as goal

abbrev pub decreases-put_number : goal.decreases-put_number
decreases-put_number l = l.n
