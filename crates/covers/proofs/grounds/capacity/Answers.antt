-- `grounds::capacity` meets its contract: two numbers of 32 bits have a product of 64.
use Rattle.std.proofs.Common.{◌≤◌, mul-le-mul, arith}
use Rattle.covers.proofs.grounds.capacity.Goals as goal

pub overflow_mul-result : goal.overflow_mul-result
overflow_mul-result c =
    let a = c.args in
    let wet : a.available ≤ 4294967295 = omega arith in
    let deep : a.roots ≤ 4294967295 = omega arith in
    omega (arith, mul-le-mul wet deep)
