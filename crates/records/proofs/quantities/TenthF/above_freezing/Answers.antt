-- `TenthF::above_freezing` meets its contract: past the test the difference is not below zero, and it fits 32 bits.
use Rattle.records.proofs.Temperatures.{none_above, above_fits, above_cast, above_is}
use Rattle.records.proofs.quantities.TenthF.above_freezing.Goals as goal

pub returns-then-self : goal.returns-then-self
returns-then-self c = none_above c.args.self.0 c.struct_told-1.given.0.1 c.if-self.true

pub overflow_sub-result : goal.overflow_sub-result
overflow_sub-result c = above_fits c.args.self.0 c.struct_told-1.given.0.1 c.if-self.false

pub overflow_cast-result : goal.overflow_cast-result
overflow_cast-result c = above_cast c.args.self.0 c.struct_told-1.given.0.1 c.if-self.false

pub returns : goal.returns
returns c = above_is c.args.self.0 c.struct_told-1.given.0.1 c.if-self.false
