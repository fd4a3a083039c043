-- `snow::falls_as_snow` meets its contract: the code tests the paper's own inequality, and no step of it leaves 32 bits.
use Rattle.weather.proofs.Temperatures.{span_fits, triple_fits, index_fits, index_test}
use Rattle.weather.proofs.snow.falls_as_snow.Goals as goal

pub overflow_sub-span : goal.overflow_sub-span
overflow_sub-span c =
    let p = c.requires in
    span_fits c.args.minimum.0 c.args.mean.0 c.args.maximum.0 p.0 p.1 p.2

pub overflow_mul-result : goal.overflow_mul-result
overflow_mul-result c =
    let p = c.requires in
    triple_fits c.args.minimum.0 c.args.mean.0 c.args.maximum.0 p.0 p.1 p.2

pub overflow_sub-result : goal.overflow_sub-result
overflow_sub-result c =
    let p = c.requires in
    index_fits c.args.minimum.0 c.args.mean.0 c.args.maximum.0 p.0 p.1 p.2

pub returns : goal.returns
returns c =
    let p = c.requires in
    index_test c.args.minimum.0 c.args.mean.0 c.args.maximum.0 p.0 p.1 p.2
