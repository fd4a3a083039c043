-- Rule 8's L on the machine: with C up to 600,000 and a shortfall up to 20,000 no step of it is truncated or passes 64 bits, and the steps give L.
use mathlib.Core.Path.{◌≡◌, sym, ap, ◌∙◌}
use Prim.Native.Nat.{ℕ, ◌+◌, ◌-◌, ◌*◌, ◌/◌, ◌≤◌, ◌<◌, min}
use native.Mathlib.Nat.{mul-le-mul, div-mul-le_self, sub-le}
use native.Mathlib.Omega.{arith}
use Rattle.paper.specs.Limits.{most_potential}
use Rattle.paper.specs.Retention.{F, L}
use Rattle.paper.proofs.RetentionLaws.{F_fall, F_most, L_inside, L_past, L_most}
use Rattle.covers.specs.Slots.{most_capacity}

-- what lies up to the knot is no more than there is, and fits 32 bits
pub knot_passed : (C d : ℕ) → d ≤ most_potential → (256 * d / C * C ≤ 256 * d) × (256 * d / C * C ≤ 5120000)
knot_passed C d q = (div-mul-le_self (256 * d) C, omega (arith, div-mul-le_self (256 * d) C))

-- between the knots, with x for F(k) and z for what is left past knot k
pub record Inside (C d x z : ℕ) : Type 0 where
  pub risen : (1048576 - x) * C ≤ 1048576 * 600000
  pub rising : x / 256 * z ≤ 4096 * 5120000
  pub exact : (1048576 - x) * C + x / 256 * z ≡ L C d

pub inside : (C d x z : ℕ) → C ≤ most_capacity → d ≤ most_potential → 256 * d / C < 2048 → x ≡ F (min (256 * d / C) 2048) → z ≡ 256 * d - 256 * d / C * C → Inside C d x z
inside C d x z p q h ex ez =
    let here : x ≡ F (256 * d / C) = ex ∙ ap (λ (k : ℕ). F k) (omega arith) in
    rw (here, ez)
    (record {
      risen = mul-le-mul (sub-le 1048576 _) p;
      rising = mul-le-mul {n₂ = 4096} {m₂ = 5120000} (omega (arith, F_most (256 * d / C))) (omega arith);
      exact = rw (← F_fall (256 * d / C)) (sym (L_inside C d h));
    })

-- from knot 2,048 on, with x for F(2,048)
pub record Past (C d x : ℕ) : Type 0 where
  pub risen : (1048576 - x) * C ≤ 1048576 * 600000
  pub exact : (1048576 - x) * C ≡ L C d

pub past : (C d x : ℕ) → C ≤ most_capacity → 2048 ≤ 256 * d / C → x ≡ F (min (256 * d / C) 2048) → Past C d x
past C d x p h e =
    let last : x ≡ F 2048 = e ∙ ap (λ (k : ℕ). F k) (omega arith) in
    record {
      risen = mul-le-mul (sub-le 1048576 x) p;
      exact = rw last (sym (L_past C d h));
    }

pub share_fits : (C soil d : ℕ) → 0 < C → C ≤ most_capacity → soil ≤ C → soil * L C d ≤ 600000 * (1048576 * 600000)
share_fits C soil d o p h = mul-le-mul {n₂ = 600000} {m₂ = 1048576 * 600000} (omega arith) (omega (arith, L_most C d o))
