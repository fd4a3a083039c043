-- `estimates::jensen_haise` meets its contract: both ways out are cases of the paper's, and the constants as bits are its decimals.
use Rattle.std.proofs.Common.{sym}
use lib.Ieee.{of_bits, round}
use Rattle.theory.proofs.Cases.{cond_true, cond_false}
use Rattle.paper.specs.Radiation.{decimal, whole, jensen_haise_by, jensen_haise_of}
use Rattle.radiation.proofs.estimates.jensen_haise.Goals as goal

pub returns-then-estimate : goal.returns-then-estimate
unfolding jensen_haise_of jensen_haise_by whole decimal round of_bits
returns-then-estimate c = sym (cond_true _ c.if-estimate.true _ _)

pub returns : goal.returns
unfolding jensen_haise_of jensen_haise_by whole decimal round of_bits
returns c = sym (cond_false _ c.if-estimate.false _ _)
