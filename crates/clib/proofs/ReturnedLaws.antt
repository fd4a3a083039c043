-- One to one: from what a call returns come back the verdict's number and its place, which fits 32 bits, and so the verdict.
use mathlib.Core.Path.{◌≡◌}
use Prim.Native.Nat.{◌/◌, ◌%◌, ◌<◌}
use native.Mathlib.Omega.{arith}
use Rattle.paper.specs.Refusals.{Verdict, verdict_number, verdict_place}
use Rattle.paper.proofs.RefusalLaws.{verdict_only}
use Rattle.clib.specs.Narrow.{narrow}
use Rattle.clib.specs.Numbers.{returned}

module _ (v : Verdict) (near : verdict_place v < narrow) where
  pub number_back : returned v / 4294967296 ≡ verdict_number v
  unfolding returned
  number_back = omega (arith, near)

  pub place_back : returned v % 4294967296 ≡ verdict_place v
  unfolding returned
  place_back = omega (arith, near)

pub returned_only : (v u : Verdict) → verdict_place v < narrow → verdict_place u < narrow → returned v ≡ returned u → v ≡ u
unfolding returned
returned_only v u near close e = verdict_only v u (omega (arith, near, close, e)) (omega (arith, near, close, e))
