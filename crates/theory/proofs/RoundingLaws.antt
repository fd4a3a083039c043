-- Bounds carried through binary arithmetic: a result that is rounded once lies within any bound that the exact one lies within, if the format
-- holds that bound, since rounding keeps the order. `Within x a c` says that x is finite and its size at most a / c, `Reaches x a c` that x has no
-- sign and is at least a / c, `Nonneg x` that x is finite and not below zero.
use mathlib.Core.Path.{◌≡◌, refl, sym, ap, ◌∙◌, subst}
use mathlib.Core.Bool.{Bool, true, false, ◌&&◌, ◌||◌, not, beq, cond, true≢false, false≢true}
use Prim.Native.Nat.{ℕ, zero, suc, ◌+◌, ◌-◌, ◌*◌, ◌^◌, ◌≤◌, ◌<◌, zero-le}
use native.Mathlib.Nat.{zero-lt-suc, lt_of_lt_of_le, le_trans, le_of_eq, le_of_lt, mul-pos, mul_comm, mul_right_comm, mul-le-mul, mul-le-mul_right, le_of_mul-le-mul_right, mul-mul-mul_comm}
use native.Mathlib.Omega.{arith}
use lib.Dec.{T, ltb, eqb, ltb→lt, nltb→le, lt→ltb, eqb→eq, not_T, lit<}
use lib.IntN.{ℤ, pos}
use lib.Ieee.{Float, nan, inf, fin, Format, prec, emax, low, unlike, up, down, odd, units, round, neg, sum, add, sub, mul, div, lt, eq, le}
use lib.Ieee.Fits.{up_pos, down_pos, and_l, round_is}
use lib.Ieee.Exact.{HasValue}
use lib.Ieee.Order.{round_mono}
use lib.Ieee.Back.{round_whole}
use lib.Ieee.Bits.{cond_no}
use lib.Ieee.Positive.{num, den, den_pos, through, first_pos}

abbrev pub Within : Float → ℕ → ℕ → Type 0
Within nan a c = ⊥
Within (inf s) a c = ⊥
Within (fin s m e) a c = m * up e * c ≤ a * down e

abbrev pub Reaches : Float → ℕ → ℕ → Type 0
Reaches nan a c = ⊥
Reaches (inf s) a c = ⊥
Reaches (fin true m e) a c = ⊥
Reaches (fin false m e) a c = a * down e ≤ m * up e * c

abbrev pub Nonneg : Float → Type 0
Nonneg nan = ⊥
Nonneg (inf s) = ⊥
Nonneg (fin true m e) = m ≡ 0
Nonneg (fin false m e) = Unit {0}

-- the format f holds a / c
abbrev pub Holds : Format → ℕ → ℕ → Type 0
Holds f a c = HasValue (round f false a c) false a c

-- ---- the order of two values with the same sign
less_or : (a b : ℕ) (e : Bool) → (T e → a ≤ b) → T (ltb a b || (e && true)) → a ≤ b
less_or a b e = go (ltb a b) e (ltb→lt a b)
  where
    go : (l e : Bool) → (T l → a < b) → (T e → a ≤ b) → T (l || (e && true)) → a ≤ b
    go true e l k t = le_of_lt (l tt)
    go false true l k t = k tt
    go false false l k t = absurd t

or_l : (a b : Bool) → T a → T (a || b)
or_l true b t = tt
or_l false b t = absurd t

not_above : (a b : ℕ) → T (ltb a b || (eqb a b && true)) → a ≤ b
not_above a b = less_or a b (eqb a b) (λ (t : T (eqb a b)). le_of_eq (eqb→eq a b t))

-- x / p ≤ y / q and y / q = a / c
at_most : (x p y q a c : ℕ) → 0 < q → x * q ≤ y * p → y * c ≡ a * q → x * c ≤ a * p
at_most x p y q a c Q h e =
    le_of_mul-le-mul_right
    (le_trans (le_of_eq (mul_right_comm x c q))
    (le_trans (mul-le-mul_right c h)
    (le_of_eq (mul_right_comm y p c ∙ ap (λ (z : ℕ). z * p) e ∙ mul_right_comm a q p))))
    Q

at_least : (x p y q a c : ℕ) → 0 < q → y * p ≤ x * q → y * c ≡ a * q → a * p ≤ x * c
at_least x p y q a c Q h e =
    le_of_mul-le-mul_right
    (le_trans (le_of_eq (mul_right_comm a p q ∙ ap (λ (z : ℕ). z * p) (sym e) ∙ mul_right_comm y c p))
    (le_trans (mul-le-mul_right c h) (le_of_eq (mul_right_comm x q c))))
    Q

under : (m : ℕ) (e : ℤ) (y : Float) (a c : ℕ) → HasValue y false a c → T (le (fin false m e) y) → m * up e * c ≤ a * down e
unfolding le lt eq
under m e nan a c v h = absurd v
under m e (inf t) a c v h = absurd v
under m e (fin true n d) a c v h = absurd (true≢false v.0)
under m e (fin false n d) a c v h =
    at_most (m * up e) (down e) (n * up d) (down d) a c (down_pos d) (not_above (m * up e * down d) (n * up d * down e) h) v.1

over : (m : ℕ) (e : ℤ) (y : Float) (a c : ℕ) → HasValue y false a c → T (le y (fin false m e)) → a * down e ≤ m * up e * c
unfolding le lt eq
over m e nan a c v h = absurd v
over m e (inf t) a c v h = absurd v
over m e (fin true n d) a c v h = absurd (true≢false v.0)
over m e (fin false n d) a c v h =
    at_least (m * up e) (down e) (n * up d) (down d) a c (down_pos d) (not_above (n * up d * down e) (m * up e * down d) h) v.1

no_infinity : (y : Float) (a c : ℕ) → HasValue y false a c → T (le (inf false) y) → ⊥
unfolding le lt eq
no_infinity nan a c v h = v
no_infinity (inf t) a c v h = v
no_infinity (fin t n d) a c v h = h

-- ---- a value is within itself, and reaches itself
pub value_within : (x : Float) (a c : ℕ) → HasValue x false a c → Within x a c
value_within nan a c v = v
value_within (inf s) a c v = v
value_within (fin s m e) a c v = le_of_eq v.1

pub value_reaches : (x : Float) (a c : ℕ) → HasValue x false a c → Reaches x a c
value_reaches nan a c v = v
value_reaches (inf s) a c v = v
value_reaches (fin true m e) a c v = true≢false v.0
value_reaches (fin false m e) a c v = le_of_eq (sym v.1)

-- ---- what a comparison says
size_zero : (m : ℕ) (e : ℤ) → m * up e ≡ 0 → m ≡ 0
size_zero zero e h = refl
size_zero (suc m) e h = absurd (let p : 0 < suc m * up e = mul-pos (zero-lt-suc m) (up_pos e) in omega arith)

-- -x is below zero or level with it
below_or_level : (x y : ℕ) → y ≡ 0 → T (ltb 0 (x + y) || (eqb x y && (false || eqb x 0)))
below_or_level zero y h = subst (λ (y : ℕ). T (ltb 0 (0 + y) || (eqb 0 y && (false || eqb 0 0)))) (sym h) tt
below_or_level (suc x) y h = or_l (ltb 0 (suc x + y)) _ (lt→ltb 0 (suc x + y) (omega arith))

above_or : (a b : ℕ) (e : Bool) → (ltb a b || e) ≡ false → b ≤ a
above_or a b e = go (ltb a b) (nltb→le a b)
  where
    go : (l : Bool) → (T (not l) → b ≤ a) → (l || e) ≡ false → b ≤ a
    go true h t = absurd (true≢false t)
    go false h t = h tt

-- from -a / c to a / c
pub between_within : (x y : Float) (a c : ℕ) → HasValue y false a c → T (le (neg y) x) → T (le x y) → Within x a c
unfolding le lt eq neg
between_within nan y a c v l h = absurd h
between_within (inf true) nan a c v l h = absurd v
between_within (inf true) (inf t) a c v l h = absurd v
between_within (inf true) (fin t n d) a c v l h = absurd l
between_within (inf false) y a c v l h = absurd (no_infinity y a c v h)
between_within (fin true m e) nan a c v l h = absurd v
between_within (fin true m e) (inf t) a c v l h = absurd v
between_within (fin true m e) (fin true n d) a c v l h = absurd (true≢false v.0)
between_within (fin true m e) (fin false n d) a c v l h =
    at_most (m * up e) (down e) (n * up d) (down d) a c (down_pos d)
    (less_or (m * up e * down d) (n * up d * down e) (eqb (n * up d * down e) (m * up e * down d)) (λ t. le_of_eq (sym (eqb→eq _ _ t))) l) v.1
between_within (fin false m e) y a c v l h = under m e y a c v h

-- from 0 to a / c
pub unsigned_nonneg : (x y : Float) (a c : ℕ) → HasValue y false a c → T (le (fin false 0 (pos 0)) x) → T (le x y) → Nonneg x
unfolding le lt eq
unsigned_nonneg nan y a c v l h = h
unsigned_nonneg (inf true) y a c v l h = l
unsigned_nonneg (inf false) y a c v l h = no_infinity y a c v h
unsigned_nonneg (fin true m e) y a c v l h =
    size_zero m e (let z : 0 * 1 * down e ≡ m * up e * 1 = eqb→eq _ _ (and_l (eqb (0 * 1 * down e) (m * up e * 1)) (false || eqb (0 * 1 * down e) 0) l) in omega arith)
unsigned_nonneg (fin false m e) y a c v l h = tt

pub nonneg_within : (x y : Float) (a c : ℕ) → HasValue y false a c → Nonneg x → T (le x y) → Within x a c
nonneg_within nan y a c v X h = X
nonneg_within (inf s) y a c v X h = X
nonneg_within (fin true m e) y a c v X h = subst (λ (m : ℕ). m * up e * c ≤ a * down e) (sym X) (omega arith)
nonneg_within (fin false m e) y a c v X h = under m e y a c v h

pub reaches_nonneg : (x : Float) (a c : ℕ) → Reaches x a c → Nonneg x
reaches_nonneg nan a c X = X
reaches_nonneg (inf s) a c X = X
reaches_nonneg (fin true m e) a c X = absurd X
reaches_nonneg (fin false m e) a c X = tt

-- not below zero
pub not_below : (x : Float) → lt x (fin false 0 (pos 0)) ≡ false → (a c : ℕ) → Within x a c → Nonneg x
unfolding lt
not_below nan l a c w = absurd w
not_below (inf s) l a c w = absurd w
not_below (fin true m e) l a c w = size_zero m e (let h : m * up e * 1 + 0 * 1 * down e ≤ 0 = nltb→le 0 _ (subst (λ (b : Bool). T (not b)) (sym l) tt) in omega arith)
not_below (fin false m e) l a c w = tt

-- above zero
pub above_zero : (x : Float) → le x (fin false 0 (pos 0)) ≡ false → (a c : ℕ) → Within x a c → Reaches x 0 1
unfolding le lt eq
above_zero nan l a c w = absurd w
above_zero (inf s) l a c w = absurd w
above_zero (fin true m e) l a c w = absurd (subst T l (below_or_level (m * up e * 1) (0 * 1 * down e) (omega arith)))
above_zero (fin false m e) l a c w = omega arith

-- without a sign, and above a / c
pub above_reaches : (x y : Float) (a c b d : ℕ) → HasValue y false a c → Reaches x b d → le x y ≡ false → Reaches x a c
unfolding le lt eq
above_reaches nan y a c b d v X l = absurd X
above_reaches (inf s) y a c b d v X l = absurd X
above_reaches (fin true m e) y a c b d v X l = absurd X
above_reaches (fin false m e) nan a c b d v X l = absurd v
above_reaches (fin false m e) (inf t) a c b d v X l = absurd v
above_reaches (fin false m e) (fin true n k) a c b d v X l = absurd (true≢false v.0)
above_reaches (fin false m e) (fin false n k) a c b d v X l =
    at_least (m * up e) (down e) (n * up k) (down k) a c (down_pos k) (above_or (m * up e * down k) (n * up k * down e) _ l) v.1

pub wider : (x : Float) (a c b d : ℕ) → 0 < c → a * d ≤ b * c → Within x a c → Within x b d
wider nan a c b d C l w = w
wider (inf s) a c b d C l w = w
wider (fin s m e) a c b d C l w = through (m * up e) a b (down e) c d C w l

zero_nonneg : (x : Float) → Within x 0 1 → Nonneg x
zero_nonneg nan w = w
zero_nonneg (inf s) w = w
zero_nonneg (fin true m e) w = size_zero m e (omega (arith, w))
zero_nonneg (fin false m e) w = tt

-- ---- tests and sums of fractions
not_zero : (n : ℕ) → 0 < n → T (not (eqb n 0))
not_zero n h = not_T (eqb n 0) (λ (t : T (eqb n 0)). absurd (let e : n ≡ 0 = eqb→eq n 0 t in omega arith))

not_less : (m n : ℕ) → n ≤ m → T (not (ltb m n))
not_less m n h = not_T (ltb m n) (λ (t : T (ltb m n)). absurd (let l : m < n = ltb→lt m n t in omega arith))

taken : (m n : ℕ) → m - n ≤ m
taken m n = omega arith

nothing_more : (x k z e : ℕ) → z ≡ 0 → (x * k + z) * e ≤ x * (e * k)
nothing_more x k z e h = subst (λ (z : ℕ). (x * k + z) * e ≤ x * (e * k)) (sym h) (omega arith)

by_fraction : (x : Float) (a c : ℕ) → Within x a c → num x * c ≤ a * den x
by_fraction nan a c w = absurd w
by_fraction (inf s) a c w = absurd w
by_fraction (fin s m e) a c w = w

-- x / e + y / k ≤ a / c + b / d
together : (x e y k a c b d : ℕ) → x * c ≤ a * e → y * d ≤ b * k → (x * k + y * e) * (c * d) ≤ (a * d + b * c) * (e * k)
together x e y k a c b d p q =
    omega (arith, mul-le-mul_right (k * d) p, mul-le-mul_right (e * c) q)

-- ---- a rounded fraction n / d
module _ (f : Format) where
  -- its size has nothing to do with its sign
  units_within : (s : Bool) (q k : ℕ) (y : Float) (a c : ℕ) → HasValue y false a c → T (le (units f false q k) y) → Within (units f s q k) a c
  unfolding units odd
  units_within s q k y a c v = go (ltb (q * 2 ^ k) (2 ^ (low f + suc (emax f)))) q
    where
      go : (b : Bool) (q : ℕ)
          → T (le (cond b (odd (suc (prec f)) false q k (low f)) (inf false)) y)
          → Within (cond b (odd (suc (prec f)) s q k (low f)) (inf s)) a c
      go true zero h = under _ _ y a c v h
      go true (suc q) h = under _ _ y a c v h
      go false q h = no_infinity y a c v h

  pub round_within : (s : Bool) (n d a c : ℕ) → 0 < d → 0 < c → Holds f a c → n * c ≤ a * d → Within (round f s n d) a c
  round_within s n d a c D C v h =
      subst (λ (x : Float). Within x a c) (sym (round_is f s n d))
      (units_within s _ _ (round f false a c) a c v
      (subst (λ (x : Float). T (le x (round f false a c))) (round_is f false n d) (round_mono f n d a c D C h)))

  units_nonneg : (q k a c : ℕ) → Within (units f false q k) a c → Nonneg (units f false q k)
  unfolding units odd
  units_nonneg q k a c = go (ltb (q * 2 ^ k) (2 ^ (low f + suc (emax f)))) q
    where
      go : (b : Bool) (q : ℕ) → Within (cond b (odd (suc (prec f)) false q k (low f)) (inf false)) a c → Nonneg (cond b (odd (suc (prec f)) false q k (low f)) (inf false))
      go true zero w = tt
      go true (suc q) w = tt
      go false q w = absurd w

  -- not below zero: without a sign, or zero
  pub round_nonneg : (s : Bool) (n d a c : ℕ) → 0 < d → Within (round f s n d) a c → (s ≡ true → n ≡ 0) → Nonneg (round f s n d)
  round_nonneg true n d a c D w z =
      subst (λ (n : ℕ). Nonneg (round f true n d)) (sym (z refl))
      (zero_nonneg (round f true 0 d) (round_within true 0 d 0 1 D (lit< tt) (round_whole f false 0 zero-le) zero-le))
  round_nonneg false n d a c D w z =
      subst Nonneg (sym (round_is f false n d)) (units_nonneg _ _ a c (subst (λ (x : Float). Within x a c) (round_is f false n d) w))

  units_reaches : (q k : ℕ) (y : Float) (g h a c : ℕ) → HasValue y false a c → Within (units f false q k) g h → T (le y (units f false q k)) → Reaches (units f false q k) a c
  unfolding units odd
  units_reaches q k y g h a c v = go (ltb (q * 2 ^ k) (2 ^ (low f + suc (emax f)))) q
    where
      go : (b : Bool) (q : ℕ)
          → Within (cond b (odd (suc (prec f)) false q k (low f)) (inf false)) g h
          → T (le y (cond b (odd (suc (prec f)) false q k (low f)) (inf false)))
          → Reaches (cond b (odd (suc (prec f)) false q k (low f)) (inf false)) a c
      go true zero w l = over _ _ y a c v l
      go true (suc q) w l = over _ _ y a c v l
      go false q w l = absurd w

  pub round_reaches : (n d g h a c : ℕ) → 0 < d → 0 < c → Holds f a c → Within (round f false n d) g h → a * d ≤ n * c → Reaches (round f false n d) a c
  round_reaches n d g h a c D C v w l =
      subst (λ (x : Float). Reaches x a c) (sym (round_is f false n d))
      (units_reaches _ _ (round f false a c) g h a c v
      (subst (λ (x : Float). Within x g h) (round_is f false n d) w)
      (subst (λ (x : Float). T (le (round f false a c) x)) (round_is f false n d) (round_mono f a c n d C D l)))

  -- ---- the operations: sizes
  pub mul_within : (x y : Float) (a c b d g h : ℕ) → 0 < c → 0 < d → 0 < h → Holds f g h → a * b * h ≤ g * (c * d) → Within x a c → Within y b d → Within (mul f x y) g h
  unfolding mul
  mul_within nan y a c b d g h C D H v l p q = absurd p
  mul_within (inf s) y a c b d g h C D H v l p q = absurd p
  mul_within (fin s m e) nan a c b d g h C D H v l p q = absurd q
  mul_within (fin s m e) (inf t) a c b d g h C D H v l p q = absurd q
  mul_within (fin s m e) (fin t n k) a c b d g h C D H v l p q =
      round_within (unlike s t) (m * up e * (n * up k)) (down e * down k) g h (mul-pos (down_pos e) (down_pos k)) H v
      (through (m * up e * (n * up k)) (a * b) g (down e * down k) (c * d) h (mul-pos C D)
      (le_trans (le_of_eq (mul-mul-mul_comm (m * up e) (n * up k) c d))
      (le_trans (mul-le-mul p q) (le_of_eq (mul-mul-mul_comm a (down e) b (down k)))))
      l)

  pub div_within : (x y : Float) (a c b d g h : ℕ) → 0 < c → 0 < b → 0 < h → Holds f g h → a * d * h ≤ g * (c * b) → Within x a c → Reaches y b d → Within (div f x y) g h
  unfolding div
  div_within nan y a c b d g h C B H v l p q = absurd p
  div_within (inf s) y a c b d g h C B H v l p q = absurd p
  div_within (fin s m e) nan a c b d g h C B H v l p q = absurd q
  div_within (fin s m e) (inf t) a c b d g h C B H v l p q = absurd q
  div_within (fin s m e) (fin true n k) a c b d g h C B H v l p q = absurd q
  div_within (fin s m e) (fin false n k) a c b d g h C B H v l p q =
      let pos : 0 < n * up k = first_pos (n * up k) d (lt_of_lt_of_le (mul-pos B (down_pos k)) q) in
      subst (λ (x : Float). Within x g h) (sym (cond_no (eqb n 0) _ _ (not_zero n (first_pos n (up k) pos))))
      (round_within (unlike s false) (m * up e * down k) (n * up k * down e) g h (mul-pos pos (down_pos e)) H v
      (through (m * up e * down k) (a * d) g (n * up k * down e) (c * b) h (mul-pos C B)
      (le_trans (le_of_eq (mul-mul-mul_comm (m * up e) (down k) c b ∙ ap (λ (z : ℕ). m * up e * c * z) (mul_comm (down k) b)))
      (le_trans (mul-le-mul p q) (le_of_eq (ap (λ (z : ℕ). a * down e * z) (mul_comm (n * up k) d) ∙ mul-mul-mul_comm a (down e) d (n * up k) ∙ ap (λ (z : ℕ). a * d * z) (mul_comm (down e) (n * up k))))))
      l))

  -- a sum or a difference is at most as large as the two sizes together
  sum_within : (s : Bool) (m : ℕ) (t : Bool) (n d g h : ℕ) → 0 < d → 0 < h → Holds f g h → (m + n) * h ≤ g * d → Within (sum f s m t n d) g h
  unfolding sum
  sum_within s m t n d g h D H v l = go (beq s t) (ltb m n)
    where
      less : (k : ℕ) → k ≤ m + n → k * h ≤ g * d
      less k i = le_trans (mul-le-mul_right h i) l

      go : (b c : Bool) → Within (cond b (round f s (m + n) d) (cond c (round f t (n - m) d) (round f (s && ltb n m) (m - n) d))) g h
      go true c = round_within s (m + n) d g h D H v l
      go false true = round_within t (n - m) d g h D H v (less (n - m) (omega arith))
      go false false = round_within (s && ltb n m) (m - n) d g h D H v (less (m - n) (omega arith))

  pub add_within : (x y : Float) (a c b d g h : ℕ) → 0 < c → 0 < d → 0 < h → Holds f g h → (a * d + b * c) * h ≤ g * (c * d) → Within x a c → Within y b d → Within (add f x y) g h
  unfolding add
  add_within nan y a c b d g h C D H v l p q = absurd p
  add_within (inf s) y a c b d g h C D H v l p q = absurd p
  add_within (fin s m e) nan a c b d g h C D H v l p q = absurd q
  add_within (fin s m e) (inf t) a c b d g h C D H v l p q = absurd q
  add_within (fin s m e) (fin t n k) a c b d g h C D H v l p q =
      sum_within s (m * up e * down k) t (n * up k * down e) (down e * down k) g h (mul-pos (down_pos e) (down_pos k)) H v
      (through (m * up e * down k + n * up k * down e) (a * d + b * c) g (down e * down k) (c * d) h (mul-pos C D)
      (together (m * up e) (down e) (n * up k) (down k) a c b d p q) l)

  -- ---- the operations: signs
  pub mul_nonneg : (x y : Float) (a c : ℕ) → Nonneg x → Nonneg y → Within (mul f x y) a c → Nonneg (mul f x y)
  unfolding mul
  mul_nonneg nan y a c X Y w = absurd X
  mul_nonneg (inf s) y a c X Y w = absurd X
  mul_nonneg (fin s m e) nan a c X Y w = absurd Y
  mul_nonneg (fin s m e) (inf t) a c X Y w = absurd Y
  mul_nonneg (fin s m e) (fin t n k) a c X Y w =
      round_nonneg (unlike s t) (m * up e * (n * up k)) (down e * down k) a c (mul-pos (down_pos e) (down_pos k)) w (signed s t X Y)
    where
      signed : (s t : Bool) → Nonneg (fin s m e) → Nonneg (fin t n k) → unlike s t ≡ true → m * up e * (n * up k) ≡ 0
      signed true t X Y u = ap (λ (z : ℕ). z * up e * (n * up k)) X ∙ omega arith
      signed false true X Y u = ap (λ (z : ℕ). m * up e * (z * up k)) Y ∙ omega arith
      signed false false X Y u = absurd (false≢true u)

  pub div_nonneg : (x y : Float) (b d a c : ℕ) → 0 < b → Nonneg x → Reaches y b d → Within (div f x y) a c → Nonneg (div f x y)
  unfolding div
  div_nonneg nan y b d a c B X Y w = absurd X
  div_nonneg (inf s) y b d a c B X Y w = absurd X
  div_nonneg (fin s m e) nan b d a c B X Y w = absurd Y
  div_nonneg (fin s m e) (inf t) b d a c B X Y w = absurd Y
  div_nonneg (fin s m e) (fin true n k) b d a c B X Y w = absurd Y
  div_nonneg (fin s m e) (fin false n k) b d a c B X Y w =
      let pos : 0 < n * up k = first_pos (n * up k) d (lt_of_lt_of_le (mul-pos B (down_pos k)) Y) in
      let is = cond_no (eqb n 0) (cond (eqb m 0) nan (inf (unlike s false))) (round f (unlike s false) (m * up e * down k) (n * up k * down e)) (not_zero n (first_pos n (up k) pos)) in
      subst Nonneg (sym is)
      (round_nonneg (unlike s false) (m * up e * down k) (n * up k * down e) a c (mul-pos pos (down_pos e)) (subst (λ (x : Float). Within x a c) is w) (signed s X))
    where
      signed : (s : Bool) → Nonneg (fin s m e) → unlike s false ≡ true → m * up e * down k ≡ 0
      signed true X u = ap (λ (z : ℕ). z * up e * down k) X ∙ omega arith
      signed false X u = absurd (false≢true u)

  -- ---- a sum of two values without a sign
  pub add_reaches : (x y : Float) (a c b d g h i j : ℕ) → 0 < c → 0 < d → 0 < h → Holds f g h → g * (c * d) ≤ (a * d + b * c) * h → Reaches x a c → Reaches y b d → Within (add f x y) i j → Reaches (add f x y) g h
  unfolding add sum
  add_reaches nan y a c b d g h i j C D H v l p q w = absurd p
  add_reaches (inf s) y a c b d g h i j C D H v l p q w = absurd p
  add_reaches (fin true m e) y a c b d g h i j C D H v l p q w = absurd p
  add_reaches (fin false m e) nan a c b d g h i j C D H v l p q w = absurd q
  add_reaches (fin false m e) (inf t) a c b d g h i j C D H v l p q w = absurd q
  add_reaches (fin false m e) (fin true n k) a c b d g h i j C D H v l p q w = absurd q
  add_reaches (fin false m e) (fin false n k) a c b d g h i j C D H v l p q w =
      round_reaches (m * up e * down k + n * up k * down e) (down e * down k) i j g h (mul-pos (down_pos e) (down_pos k)) H v w
      (through g (a * d + b * c) (m * up e * down k + n * up k * down e) h (c * d) (down e * down k) (mul-pos C D) l
      (together a c b d (m * up e) (down e) (n * up k) (down k) p q))

  sum_nonneg : (s : Bool) (m : ℕ) (t : Bool) (n d a c : ℕ) → 0 < d → (s ≡ true → m ≡ 0) → (t ≡ true → n ≡ 0) → Within (sum f s m t n d) a c → Nonneg (sum f s m t n d)
  unfolding sum
  sum_nonneg true m true n d a c D M N w =
      round_nonneg true (m + n) d a c D w (λ u. let p : m ≡ 0 = M refl in let q : n ≡ 0 = N refl in omega arith)
  sum_nonneg true m false n d a c D M N w = go (ltb m n) w
    where
      go : (l : Bool) → Within (cond l (round f false (n - m) d) (round f (true && ltb n m) (m - n) d)) a c → Nonneg (cond l (round f false (n - m) d) (round f (true && ltb n m) (m - n) d))
      go true w = round_nonneg false (n - m) d a c D w (λ u. absurd (false≢true u))
      go false w = round_nonneg (ltb n m) (m - n) d a c D w (λ u. let p : m ≡ 0 = M refl in omega arith)
  sum_nonneg false m true n d a c D M N w = go (ltb m n) w
    where
      go : (l : Bool) → Within (cond l (round f true (n - m) d) (round f false (m - n) d)) a c → Nonneg (cond l (round f true (n - m) d) (round f false (m - n) d))
      go true w = round_nonneg true (n - m) d a c D w (λ u. let p : n ≡ 0 = N refl in omega arith)
      go false w = round_nonneg false (m - n) d a c D w (λ u. absurd (false≢true u))
  sum_nonneg false m false n d a c D M N w = round_nonneg false (m + n) d a c D w (λ u. absurd (false≢true u))

  signed_zero : (s : Bool) (m : ℕ) (e : ℤ) (k : ℕ) → Nonneg (fin s m e) → s ≡ true → m * up e * k ≡ 0
  signed_zero true m e k X u = ap (λ (z : ℕ). z * up e * k) X ∙ omega arith
  signed_zero false m e k X u = absurd (false≢true u)

  pub add_nonneg : (x y : Float) (a c : ℕ) → Nonneg x → Nonneg y → Within (add f x y) a c → Nonneg (add f x y)
  unfolding add
  add_nonneg nan y a c X Y w = absurd X
  add_nonneg (inf s) y a c X Y w = absurd X
  add_nonneg (fin s m e) nan a c X Y w = absurd Y
  add_nonneg (fin s m e) (inf t) a c X Y w = absurd Y
  add_nonneg (fin s m e) (fin t n k) a c X Y w =
      sum_nonneg s (m * up e * down k) t (n * up k * down e) (down e * down k) a c (mul-pos (down_pos e) (down_pos k)) (signed_zero s m e (down k) X) (signed_zero t n k (down e) Y) w

  -- ---- what is left of an x without a sign after a y that is not above it
  record Left (x y : Float) : Type 0 where
    n : ℕ
    d : ℕ
    pos : 0 < d
    is : sub f x y ≡ round f false n d
    less : n * den x ≤ num x * d

  left : (x y : Float) (b d : ℕ) → Reaches x b d → Nonneg y → T (le y x) → Left x y
  unfolding sub add neg sum le lt eq
  left nan y b d X Y l = absurd X
  left (inf s) y b d X Y l = absurd X
  left (fin true m e) y b d X Y l = absurd X
  left (fin false m e) nan b d X Y l = absurd Y
  left (fin false m e) (inf t) b d X Y l = absurd Y
  left (fin false m e) (fin true n k) b d X Y l =
      record { n = _; d = _; pos = mul-pos (down_pos e) (down_pos k); is = refl; less = nothing_more (m * up e) (down k) (n * up k * down e) (down e) (ap (λ (z : ℕ). z * up k * down e) Y ∙ omega arith) }
  left (fin false m e) (fin false n k) b d X Y l =
      record { n = m * up e * down k - n * up k * down e; d = down e * down k; pos = mul-pos (down_pos e) (down_pos k); is = cond_no (ltb (m * up e * down k) (n * up k * down e)) (round f true (n * up k * down e - m * up e * down k) (down e * down k)) (round f false (m * up e * down k - n * up k * down e) (down e * down k)) (not_less (m * up e * down k) (n * up k * down e) (not_above (n * up k * down e) (m * up e * down k) l)); less = le_trans (mul-le-mul_right (down e) (taken (m * up e * down k) _)) (omega arith) }

  pub sub_within : (x y : Float) (b d a c : ℕ) → 0 < c → Holds f a c → Reaches x b d → Nonneg y → T (le y x) → Within x a c → Within (sub f x y) a c
  sub_within x y b d a c C v X Y l w =
      let r = left x y b d X Y l in
      subst (λ (z : Float). Within z a c) (sym r.is)
      (round_within false r.n r.d a c r.pos C v (through r.n (num x) a r.d (den x) c (den_pos x) r.less (by_fraction x a c w)))

  pub sub_nonneg : (x y : Float) (b d a c : ℕ) → Reaches x b d → Nonneg y → T (le y x) → Within (sub f x y) a c → Nonneg (sub f x y)
  sub_nonneg x y b d a c X Y l w =
      let r = left x y b d X Y l in
      subst Nonneg (sym r.is) (round_nonneg false r.n r.d a c r.pos (subst (λ (z : Float). Within z a c) r.is w) (λ u. absurd (false≢true u)))
