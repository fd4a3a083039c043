-- The bounds of a chain of operations, each rounded once: a caller names the bound of every step, and shows that the exact step keeps to it. What a bound is
-- made of is found from the steps before it.
use mathlib.Core.Path.{◌≡◌}
use mathlib.Core.Bool.{false}
use Prim.Native.Nat.{ℕ, ◌+◌, ◌*◌, ◌<◌}
use lib.Dec.{T, leb, ltb, leb→le, ltb→lt, lit<}
use lib.IntN.{pos}
use lib.Ieee.{Float, fin, Format, round, neg, add, sub, mul, div, lt, le}
use Rattle.theory.proofs.RoundingLaws as rounding

-- the format holds a / c
pub record Held (f : Format) (a c : ℕ) : Type 0 where
  pub positive : 0 < c
  pub value : rounding.Holds f a c

-- x is finite, and its size at most a / c
pub record Within (x : Float) (a c : ℕ) : Type 0 where
  pub positive : 0 < c
  pub size : rounding.Within x a c

-- x is finite and not below zero, and at most a / c
pub record UpTo (x : Float) (a c : ℕ) : Type 0 where
  pub within : Within x a c
  pub nonneg : rounding.Nonneg x

-- x is finite, has no sign, and is at least a / c
pub record From (x : Float) (a c : ℕ) : Type 0 where
  pub positive : 0 < c
  pub reaches : rounding.Reaches x a c

module _ {f : Format} {x y : Float} {a c b d g h : ℕ} where
  pub mul_within : Held f g h → T (leb (a * b * h) (g * (c * d))) → Within x a c → Within y b d → Within (mul f x y) g h
  mul_within v l p q =
      record { positive = v.positive; size = rounding.mul_within f x y a c b d g h p.positive q.positive v.positive v.value (leb→le _ _ l) p.size q.size }

  pub div_within : Held f g h → T (ltb 0 b) → T (leb (a * d * h) (g * (c * b))) → Within x a c → From y b d → Within (div f x y) g h
  div_within v n l p q =
      record { positive = v.positive; size = rounding.div_within f x y a c b d g h p.positive (ltb→lt 0 b n) v.positive v.value (leb→le _ _ l) p.size q.reaches }

  pub add_within : Held f g h → T (leb ((a * d + b * c) * h) (g * (c * d))) → Within x a c → Within y b d → Within (add f x y) g h
  add_within v l p q =
      record { positive = v.positive; size = rounding.add_within f x y a c b d g h p.positive q.positive v.positive v.value (leb→le _ _ l) p.size q.size }

  pub mul_up_to : Held f g h → T (leb (a * b * h) (g * (c * d))) → UpTo x a c → UpTo y b d → UpTo (mul f x y) g h
  mul_up_to v l p q =
      let w = mul_within v l p.within q.within in
      record { within = w; nonneg = rounding.mul_nonneg f x y g h p.nonneg q.nonneg w.size }

  pub div_up_to : Held f g h → T (ltb 0 b) → T (leb (a * d * h) (g * (c * b))) → UpTo x a c → From y b d → UpTo (div f x y) g h
  div_up_to v n l p q =
      let w = div_within v n l p.within q in
      record { within = w; nonneg = rounding.div_nonneg f x y b d g h (ltb→lt 0 b n) p.nonneg q.reaches w.size }

  pub add_up_to : Held f g h → T (leb ((a * d + b * c) * h) (g * (c * d))) → UpTo x a c → UpTo y b d → UpTo (add f x y) g h
  add_up_to v l p q =
      let w = add_within v l p.within q.within in
      record { within = w; nonneg = rounding.add_nonneg f x y g h p.nonneg q.nonneg w.size }

  -- two values without a sign
  pub add_from : Held f g h → T (leb (g * (c * d)) ((a * d + b * c) * h)) → From x a c → From y b d → (i j : ℕ) → Within (add f x y) i j → From (add f x y) g h
  add_from v l p q i j w =
      record { positive = v.positive; reaches = rounding.add_reaches f x y a c b d g h i j p.positive q.positive v.positive v.value (leb→le _ _ l) p.reaches q.reaches w.size }

-- y taken from an x that is not below it leaves at most x
pub sub_up_to : {f : Format} {x y : Float} {a c b d i j : ℕ} → Held f a c → Within x a c → From x b d → UpTo y i j → T (le y x) → UpTo (sub f x y) a c
sub_up_to {f} {x} {y} {a} {c} {b} {d} v p q r l =
    let w = rounding.sub_within f x y b d a c v.positive v.value q.reaches r.nonneg l p.size in
    record { within = record { positive = v.positive; size = w }; nonneg = rounding.sub_nonneg f x y b d a c q.reaches r.nonneg l w }

module _ {x : Float} {a c : ℕ} where
  pub wider : {b d : ℕ} → T (ltb 0 d) → T (leb (a * d) (b * c)) → UpTo x a c → UpTo x b d
  wider {b} {d} n l p =
      record { within = record { positive = ltb→lt 0 d n; size = rounding.wider x a c b d p.within.positive (leb→le _ _ l) p.within.size }; nonneg = p.nonneg }

  pub not_below : Within x a c → lt x (fin false 0 (pos 0)) ≡ false → UpTo x a c
  not_below p e = record { within = p; nonneg = rounding.not_below x e a c p.size }

  pub above_zero : Within x a c → le x (fin false 0 (pos 0)) ≡ false → From x 0 1
  above_zero p e = record { positive = lit< tt; reaches = rounding.above_zero x e a c p.size }

-- a bound that the format holds is itself a value, and this is what a comparison with it says
module _ {f : Format} {a c : ℕ} (v : Held f a c) where
  pub held_from : From (round f false a c) a c
  held_from = record { positive = v.positive; reaches = rounding.value_reaches (round f false a c) a c v.value }

  pub held_up_to : UpTo (round f false a c) a c
  held_up_to =
      record { within = record { positive = v.positive; size = rounding.value_within (round f false a c) a c v.value }; nonneg = rounding.reaches_nonneg (round f false a c) a c held_from.reaches }

  pub between_within : {x : Float} → T (le (neg (round f false a c)) x) → T (le x (round f false a c)) → Within x a c
  between_within l h = record { positive = v.positive; size = rounding.between_within _ (round f false a c) a c v.value l h }

  pub unsigned_up_to : {x : Float} → T (le (fin false 0 (pos 0)) x) → T (le x (round f false a c)) → UpTo x a c
  unsigned_up_to l h =
      let n = rounding.unsigned_nonneg _ (round f false a c) a c v.value l h in
      record { within = record { positive = v.positive; size = rounding.nonneg_within _ (round f false a c) a c v.value n h }; nonneg = n }

  pub from_up_to : {x : Float} {b d : ℕ} → From x b d → T (le x (round f false a c)) → UpTo x a c
  from_up_to {x} {b} {d} p h =
      let n = rounding.reaches_nonneg x b d p.reaches in
      record { within = record { positive = v.positive; size = rounding.nonneg_within x (round f false a c) a c v.value n h }; nonneg = n }

  pub above_from : {x : Float} {b d : ℕ} → From x b d → le x (round f false a c) ≡ false → From x a c
  above_from {x} {b} {d} p e = record { positive = v.positive; reaches = rounding.above_reaches x (round f false a c) a c b d v.value p.reaches e }
