-- `estimates::turc` meets its contract: each way out is a case of the paper's, and the constants as bits are its decimals.
use Rattle.std.proofs.Common.{sym, ◌∙◌}
use lib.Ieee.{of_bits, round}
use Rattle.theory.proofs.Cases.{cond_true, cond_false}
use Rattle.paper.specs.Radiation.{decimal, whole, humid, dryness, turc_of}
use Rattle.radiation.proofs.estimates.turc.Goals as goal

pub returns-then-mean : goal.returns-then-mean
unfolding turc_of humid dryness whole decimal round of_bits
returns-then-mean c = sym (cond_true _ c.if-mean.true _ _)

pub returns-then-humidity : goal.returns-then-humidity
unfolding turc_of humid dryness whole decimal round of_bits
returns-then-humidity c = sym (cond_false _ c.if-mean.false _ _ ∙ cond_true _ c.if-humidity.true _ _)

pub returns : goal.returns
unfolding turc_of humid dryness whole decimal round of_bits
returns c = sym (cond_false _ c.if-mean.false _ _ ∙ cond_false _ c.if-humidity.false _ _)
