-- `TenthF::below_freezing` meets its contract: past the test the difference is not below zero, and it fits 64 bits.
use Rattle.records.proofs.Temperatures.{none_below, wide_fits, below_fits, below_cast, below_is}
use Rattle.records.proofs.quantities.TenthF.below_freezing.Goals as goal

pub returns-then-self : goal.returns-then-self
returns-then-self c = none_below c.args.self.0 c.struct_told-2-1.given.0.1 c.if-self.true

pub overflow_cast-result-2 : goal.overflow_cast-result-2
overflow_cast-result-2 c = wide_fits c.args.self.0 c.struct_told-2-1.given.0.1

pub overflow_sub-result : goal.overflow_sub-result
overflow_sub-result c = below_fits c.args.self.0 c.struct_told-2-1.given.0.1 c.if-self.false

pub overflow_cast-result-3 : goal.overflow_cast-result-3
overflow_cast-result-3 c = below_cast c.args.self.0 c.struct_told-2-1.given.0.1 c.if-self.false

pub returns : goal.returns
returns c = below_is c.args.self.0 c.struct_told-2-1.given.0.1 c.if-self.false
