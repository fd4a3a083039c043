-- Rule 6: more water gives no less runoff and no less infiltration, and the form of the rule that fits 64 bits.
-- With a for what is beyond the abstraction and K = 100,000(100 - c), the spread is a + K, so that the runoff is a² / (c(a + K)); where a is truncated to 0, both are 0.
-- An a larger by t adds to that quotient at least 0 and at most t / c: (a + t)² (a + K) is between a² (a + K + t) and (a² + t (a + K)) (a + K + t), which exceeds it by t K².
use mathlib.Core.Logic.{◌⊎◌, inl, inr}
use mathlib.Core.Path.{◌≡◌, ap}
use Prim.Native.Nat.{ℕ, ◌+◌, ◌-◌, ◌*◌, ◌/◌, ◌≤◌, ◌<◌}
use native.Mathlib.Nat.{eq-zero-or-pos, zero-add, zero-mul, mul_comm, div-zero, zero-div, add-mul-div_right, div-div-eq-div-mul, div-le_of_le-mul, add-sub_of_le, le_trans, mul-le-mul, mul-le-mul_left, sub-eq-zero_of_le}
use native.Mathlib.Decide.{dec_le}
use native.Mathlib.Omega.{arith}
use Rattle.paper.specs.Runoff.{beyond_abstraction, spread, runoff}
use Rattle.paper.proofs.Divisions.{ratio}

-- b = c(w - 80,000) + 8,000,000, with no subtraction cut short
pub spread_is : (c w : ℕ) → c ≤ 100 → spread c w + 80000 * c ≡ c * w + 8000000
unfolding spread
spread_is c w h = omega arith

pub spread_beyond : (c w : ℕ) → c ≤ 100 → 2000000 ≤ c * (w + 20000) → spread c w ≡ beyond_abstraction c w + 100000 * (100 - c)
unfolding spread beyond_abstraction
spread_beyond c w p h = omega arith

-- the paper's a ≤ 0
pub runoff_none : (c w : ℕ) → c * (w + 20000) ≤ 2000000 → runoff c w ≡ 0
unfolding runoff beyond_abstraction
runoff_none c w h = simp (sub-eq-zero_of_le h, zero-mul, zero-div)

rule : ℕ → ℕ → ℕ → ℕ
rule c K a = a * a / (c * (a + K))

runoff_rule : (c w : ℕ) → c ≤ 100 → runoff c w ≡ rule c (100000 * (100 - c)) (beyond_abstraction c w)
unfolding runoff rule beyond_abstraction
runoff_rule c w p = go (dec_le 2000000 (c * (w + 20000)))
  where
    go : Dec (2000000 ≤ c * (w + 20000)) → runoff c w ≡ rule c (100000 * (100 - c)) (beyond_abstraction c w)
    go (yes h) = rw (spread_beyond c w p h)
    go (no h) = let less : c * (w + 20000) ≤ 2000000 = omega arith in simp (sub-eq-zero_of_le less, zero-mul, zero-div)

rule_more : (c K a t : ℕ) → rule c K a ≤ rule c K (a + t)
unfolding rule
rule_more c K a t = go (eq-zero-or-pos (c * (a + t + K)))
  where
    go : (c * (a + t + K) ≡ 0) ⊎ (0 < c * (a + t + K)) → rule c K a ≤ rule c K (a + t)
    go (inl e) = let none : c * (a + K) ≡ 0 = omega arith in rw (none, div-zero) (omega arith)
    go (inr p) = let more : rule c K a ≤ rule c K (a + t) + 0 = ratio _ _ _ _ 0 p (omega arith) in omega arith

rule_slack : (c K a s : ℕ) → rule c K (a + c * s) ≤ rule c K a + s
unfolding rule
rule_slack c K a s = go (eq-zero-or-pos c) (eq-zero-or-pos (a + K))
  where
    go : (c ≡ 0) ⊎ (0 < c) → (a + K ≡ 0) ⊎ (0 < a + K) → rule c K (a + c * s) ≤ rule c K a + s
    go (inl e) q = simp (e, zero-mul, div-zero) (omega arith)
    go (inr p) (inl e) =
        let none : a ≡ 0 = omega arith in
        let most : rule c K (a + c * s) ≤ s = div-le_of_le-mul _ (rw none (omega arith)) in
        omega arith
    go (inr p) (inr q) = ratio _ _ _ _ s (omega (arith, mul-le-mul p q)) (omega arith)

rule_rises : (c K : ℕ) {a b : ℕ} → a ≤ b → rule c K a ≤ rule c K b
rule_rises c K {a} {b} h = rw (add-sub_of_le h) at (rule_more c K a (b - a))

pub runoff_rises : {c w v : ℕ} → c ≤ 100 → w ≤ v → runoff c w ≤ runoff c v
unfolding beyond_abstraction
runoff_rises {c} {w} {v} p h =
    rw (runoff_rule c w p, runoff_rule c v p) (rule_rises c _ (omega (arith, mul-le-mul_left c h)))

pub runoff_slack : (c w s : ℕ) → c ≤ 100 → runoff c (w + s) ≤ runoff c w + s
unfolding beyond_abstraction
runoff_slack c w s p =
    rw (runoff_rule c w p, runoff_rule c (w + s) p) (le_trans (rule_rises c _ (omega arith)) (rule_slack c _ (beyond_abstraction c w) s))

pub runoff_most : (c w : ℕ) → c ≤ 100 → runoff c w ≤ w
runoff_most c w p =
    rw (zero-add w, runoff_none c 0 (omega arith), zero-add w) at (runoff_slack c 0 w p)

pub infiltration_rises : {c w v : ℕ} → c ≤ 100 → w ≤ v → w - runoff c w ≤ v - runoff c v
infiltration_rises {c} {w} {v} p h =
    let slack : runoff c v ≤ runoff c w + (v - w) = rw (add-sub_of_le h) at (runoff_slack c w (v - w) p) in
    omega arith

-- a² is s² + K² less 2Ks, for s = a + K
square_64 : (K a : ℕ) → 0 < a + K → a * a / (a + K) + 2 * K ≡ K * K / (a + K) + (a + K)
square_64 K a p =
    let square : a * a + 2 * K * (a + K) ≡ K * K + (a + K) * (a + K) = omega arith in
    rw (add-mul-div_right _ (2 * K) p, add-mul-div_right _ (a + K) p) at (ap (λ n. n / (a + K)) square)

pub runoff_64 : (c w : ℕ) → 1 ≤ c → c ≤ 100 → 2000000 < c * (w + 20000) → runoff c w ≡ (spread c w + 100000 * (100 - c) * (100000 * (100 - c)) / spread c w - 2 * (100000 * (100 - c))) / c
unfolding beyond_abstraction rule
runoff_64 c w o p h =
    let K = 100000 * (100 - c) in
    let a = beyond_abstraction c w in
    let quotient : a * a / (a + K) ≡ a + K + K * K / (a + K) - 2 * K = omega (arith, square_64 K a (omega arith)) in
    rw (spread_beyond c w p (omega arith), runoff_rule c w p, mul_comm c (a + K), ← div-div-eq-div-mul (a * a) (a + K) c) (ap (λ q. q / c) quotient)

-- the subtraction in that form is never truncated
pub runoff_64_room : (c w : ℕ) → c ≤ 100 → 2000000 < c * (w + 20000) → 2 * (100000 * (100 - c)) ≤ spread c w + 100000 * (100 - c) * (100000 * (100 - c)) / spread c w
unfolding beyond_abstraction
runoff_64_room c w p h = rw (spread_beyond c w p (omega arith)) (omega (arith, square_64 (100000 * (100 - c)) (beyond_abstraction c w) (omega arith)))
