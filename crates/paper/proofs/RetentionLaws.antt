-- Rule 8: L is a rising line in 256 d, no steeper than 4,096, continuous at every knot and at 2,048; so the loss rises, and by no more than what it is taken from.
-- With F held at its last entry past 2,048, one formula gives L in every piece, and one more 256th of d moves it by the slope of its piece, also where the step ends at a knot.
use mathlib.Core.Logic.{◌⊎◌, inl, inr}
use mathlib.Core.Path.{◌≡◌, refl, ◌∙◌, sym}
use Prim.Native.Nat.{ℕ, zero, suc, ◌+◌, ◌-◌, ◌*◌, ◌/◌, ◌≤◌, ◌<◌, min}
use native.Mathlib.Nat.{eq-zero-or-pos, zero-mul, mul-zero, zero-add, add-zero, add-suc, mul-add, sub_self, sub-le, sub-zero, div-zero, zero-div, add-sub_of_le, le_trans, mul-le-mul_left, mul-le-mul_right, min-eq_left, min-eq_right, div-eq_of_lt-le, div-mul-le_self, lt-div-mul-add, eq-or-lt_of_le}
use native.Mathlib.Decide.{dec_lt}
use native.Mathlib.Omega.{arith}
use borrow.Author.Tests.{lt-ltb, le-ltb}
use Rattle.paper.specs.Retention.{F, between, L, loss}
use Rattle.paper.proofs.Divisions.{slack, div_mono}

pub F_start : F 0 ≡ 1048576
unfolding F
F_start = refl

pub F_next : (k : ℕ) → F (suc k) ≡ F k - F k / 256
unfolding F
F_next k = refl

pub F_falls : (k : ℕ) → F (suc k) ≤ F k
F_falls k = omega (arith, F_next k)

-- the fall from an entry to the next is the entry's 256th part
pub F_fall : (k : ℕ) → F k - F (suc k) ≡ F k / 256
F_fall k = omega (arith, F_next k)

pub F_most : (k : ℕ) → F k ≤ 1048576
F_most zero = omega (arith, F_start)
F_most (suc k) = le_trans (F_falls k) (F_most k)

pub F_step : (k : ℕ) → F k - F (suc k) ≤ 4096
F_step k = omega (arith, F_next k, F_most k)

-- a line of slope x - y from a knot of height (1,048,576 - x)C is at the height of the next knot after C
knot : (x y z C : ℕ) → y ≤ x → x ≤ 1048576 → (1048576 - x) * C + (x - y) * C ≡ (1048576 - y) * C + (y - z) * 0
knot x y z C p q = let rise : 1048576 - y ≡ 1048576 - x + (x - y) = omega arith in rw rise (omega arith)

pub L_knot : (C k : ℕ) → between C k C ≡ between C (suc k) 0
unfolding between
L_knot C k = knot (F k) (F (suc k)) _ C (F_falls k) (F_most k)

pub L_end : (C : ℕ) → between C 2047 C ≡ (1048576 - F 2048) * C
unfolding between
L_end C = L_knot C 2047 ∙ omega arith

pub L_inside : (C d : ℕ) → let k = 256 * d / C in let f = 256 * d - k * C in k < 2048 → L C d ≡ (1048576 - F k) * C + (F k - F (suc k)) * f
unfolding L between
L_inside C d h = rw (lt-ltb _ _ h)

pub L_past : (C d : ℕ) → let k = 256 * d / C in 2048 ≤ k → L C d ≡ (1048576 - F 2048) * C
unfolding L
L_past C d h = rw (le-ltb _ _ h)

-- F held at its last entry
G : ℕ → ℕ
G k = F (min k 2048)

G_inside : (k : ℕ) → k ≤ 2048 → G k ≡ F k
unfolding G
G_inside k h = rw (min-eq_left h)

G_past : (k : ℕ) → 2048 ≤ k → G k ≡ F 2048
unfolding G
G_past k h = rw (min-eq_right h)

G_most : (k : ℕ) → G k ≤ 1048576
unfolding G
G_most k = F_most (min k 2048)

G_step : (k : ℕ) → (G (suc k) ≤ G k) × (G k ≤ G (suc k) + 4096)
G_step k = go (dec_lt k 2048)
  where
    go : Dec (k < 2048) → (G (suc k) ≤ G k) × (G k ≤ G (suc k) + 4096)
    go (yes h) = rw (G_inside k (omega arith), G_inside (suc k) h) (F_falls k, omega (arith, F_step k))
    go (no h) = rw (G_past k (omega arith), G_past (suc k) (omega arith)) (omega arith)

piece : ℕ → ℕ → ℕ → ℕ
piece C k f = (1048576 - G k) * C + (G k - G (suc k)) * f

piece_next : (C k f : ℕ) → piece C k (suc f) ≡ piece C k f + (G k - G (suc k))
unfolding piece
piece_next C k f = omega arith

piece_knot : (C k : ℕ) → piece C k C ≡ piece C (suc k) 0
unfolding piece
piece_knot C k = knot (G k) (G (suc k)) _ C (G_step k).0 (G_most k)

-- L for n 256ths of a unit
line : ℕ → ℕ → ℕ
line C n = piece C (n / C) (n - n / C * C)

L_line : (C d : ℕ) → L C d ≡ line C (256 * d)
unfolding line piece
L_line C d = go (dec_lt (256 * d / C) 2048)
  where
    go : Dec (256 * d / C < 2048) → L C d ≡ line C (256 * d)
    go (yes h) = rw (L_inside C d h, G_inside (256 * d / C) (omega arith), G_inside (suc (256 * d / C)) h)
    go (no h) = simp (L_past C d (omega arith), G_past (256 * d / C) (omega arith), G_past (suc (256 * d / C)) (omega arith), sub_self, zero-mul, add-zero)

line_at : (C n k f : ℕ) → n ≡ k * C + f → f < C → line C n ≡ piece C k f
unfolding line
line_at C n k f e h =
    let quotient : n / C ≡ k = div-eq_of_lt-le C (omega arith) (omega arith) in
    let rest : n - k * C ≡ f = omega arith in
    rw (quotient, rest)

line_next : (C n : ℕ) → line C (suc n) ≡ piece C (n / C) (suc (n - n / C * C))
unfolding line
line_next C n = go (eq-zero-or-pos C)
  where
    at : 0 < C → (suc (n - n / C * C) ≡ C) ⊎ (suc (n - n / C * C) < C) → line C (suc n) ≡ piece C (n / C) (suc (n - n / C * C))
    at p (inl e) = rw e (line_at C (suc n) (suc (n / C)) 0 (omega (arith, div-mul-le_self n C)) p ∙ sym (piece_knot C (n / C)))
    at p (inr h) = line_at C (suc n) (n / C) _ (omega (arith, div-mul-le_self n C)) h

    go : (C ≡ 0) ⊎ (0 < C) → line C (suc n) ≡ piece C (n / C) (suc (n - n / C * C))
    go (inl e) = simp (e, div-zero, sub-zero)
    go (inr p) = at p (eq-or-lt_of_le (omega (arith, lt-div-mul-add {a = n} p)))

line_step : (C n : ℕ) → (line C n ≤ line C (suc n)) × (line C (suc n) ≤ line C n + 4096)
unfolding line
line_step C n = rw (line_next C n, piece_next C (n / C) (n - n / C * C)) (omega (arith, G_step (n / C)))

line_steps : (C n m : ℕ) → (line C n ≤ line C (n + m)) × (line C (n + m) ≤ line C n + m * 4096)
line_steps C n zero = rw (add-zero n) (omega arith)
line_steps C n (suc m) = rw (add-suc n m) (omega (arith, line_steps C n m, line_step C (n + m)))

L_steps : (C d s : ℕ) → (L C d ≤ L C (d + s)) × (L C (d + s) ≤ L C d + s * 1048576)
L_steps C d s = rw (L_line C d, L_line C (d + s), mul-add 256 d s) (omega (arith, line_steps C (256 * d) (256 * s)))

pub L_slack : (C d s : ℕ) → L C (d + s) ≤ L C d + s * 1048576
L_slack C d s = (L_steps C d s).1

pub L_rises : (C : ℕ) {d e : ℕ} → d ≤ e → L C d ≤ L C e
L_rises C {d} {e} h = rw (add-sub_of_le h) at (L_steps C d (e - d)).0

pub L_most : (C d : ℕ) → 0 < C → L C d ≤ 1048576 * C
unfolding line piece
L_most C d p = rw (L_line C d) (go (256 * d / C) (256 * d - 256 * d / C * C) (omega (arith, lt-div-mul-add {a = 256 * d} p)))
  where
    go : (k f : ℕ) → f ≤ C → piece C k f ≤ 1048576 * C
    go k f h = omega (arith, mul-le-mul_left (G k - G (suc k)) h, piece_knot C k, mul-le-mul_right C (sub-le 1048576 (G (suc k))))

pub loss_none : (soil d : ℕ) → loss 0 soil d ≡ 0
unfolding loss
loss_none soil d = div-zero _

pub loss_zero : (C soil : ℕ) → loss C soil 0 ≡ 0
unfolding loss L between
loss_zero C soil = simp (zero-div, F_start, zero-mul, mul-zero)

-- more soil loses at most the more
loss_soil_slack : (C d soil s : ℕ) → loss C (soil + s) d ≤ loss C soil d + s
unfolding loss
loss_soil_slack C d soil s = go (eq-zero-or-pos C)
  where
    go : (C ≡ 0) ⊎ (0 < C) → loss C (soil + s) d ≤ loss C soil d + s
    go (inl e) = simp (e, loss_none) (omega arith)
    go (inr p) = slack _ _ s _ (omega (arith, mul-le-mul_left s (L_most C d p)))

pub loss_soil : (C soil d : ℕ) → loss C soil d ≤ soil
unfolding loss
loss_soil C soil d = simp (zero-add, zero-mul, zero-div) at (loss_soil_slack C d 0 soil)

pub loss_rises_soil : (C d : ℕ) {soil soil' : ℕ} → soil ≤ soil' → loss C soil d ≤ loss C soil' d
unfolding loss
loss_rises_soil C d h = div_mono _ (mul-le-mul_right _ h)

pub left_rises : (C d : ℕ) {soil soil' : ℕ} → soil ≤ soil' → soil - loss C soil d ≤ soil' - loss C soil' d
left_rises C d {soil} {soil'} h =
    let more : loss C soil' d ≤ loss C soil d + (soil' - soil) = rw (add-sub_of_le h) at (loss_soil_slack C d soil (soil' - soil)) in
    omega arith

-- a shortfall larger by s takes at most s more
loss_slack : (C soil d s : ℕ) → soil ≤ C → loss C soil (d + s) ≤ loss C soil d + s
unfolding loss
loss_slack C soil d s h = slack _ _ s _ (omega (arith, mul-le-mul_left soil (L_slack C d s), mul-le-mul_right (s * 1048576) h))

pub loss_potential : (C soil d : ℕ) → soil ≤ C → loss C soil d ≤ d
loss_potential C soil d h = simp (zero-add, loss_zero) at (loss_slack C soil 0 d h)

pub loss_rises_d : (C soil : ℕ) {d e : ℕ} → d ≤ e → loss C soil d ≤ loss C soil e
unfolding loss
loss_rises_d C soil h = div_mono _ (mul-le-mul_left soil (L_rises C h))

pub evaporation_rises : (C soil E n m : ℕ) → soil ≤ C → n ≤ m → m ≤ E → n + loss C soil (E - n) ≤ m + loss C soil (E - m)
evaporation_rises C soil E n m h p q =
    let short : E - m + (m - n) ≡ E - n = omega arith in
    omega (arith, rw short at (loss_slack C soil (E - m) (m - n) h))
