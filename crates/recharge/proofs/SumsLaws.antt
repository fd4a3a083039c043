-- Sums of figures: one figure more at its place, and the figures of a day, of which each kind has a part of the sums to itself.
use mathlib.Core.List.{List}
use mathlib.Core.Path.{◌≡◌, refl, ap, ◌∙◌}
use Prim.Native.Nat.{ℕ, ◌+◌, ◌*◌, ◌-◌, ◌≤◌, ◌<◌}
use native.Mathlib.Nat.{le_refl, zero-add, mul-le-mul_right}
use native.Mathlib.Omega.{arith}
use lib.ListN.{length, get_or, set, length-set}
use lib.Seq.{get_or-set_same, get_or-set_other}
use Rattle.theory.proofs.Cases.{below_or_not}
use Rattle.paper.specs.Day.{Results}
use Rattle.recharge.specs.Totals.{roomy}
use Rattle.recharge.specs.Period.{SumsRoom, Added, Addable, DayAdded}

pub added_none : (from : ℕ) (figures sums : List ℕ) → Added from 0 figures sums sums
added_none from figures sums =
    record { kept = refl; done = λ j h. absurd (omega arith); ahead = λ j h. refl; below = λ m h. refl; most = λ m. omega arith }

module _ (from i : ℕ) (figures before now : List ℕ) (a : Added from i figures before now) (x : ℕ) (is : x ≡ get_or figures i 0) (small : x ≤ 4294967295)
    (inside : from + i < length before) where
  abbrev after : List ℕ
  after = set now (from + i) (get_or now (from + i) 0 + x)

  here : get_or after (from + i) 0 ≡ get_or before (from + i) 0 + get_or figures i 0
  here = get_or-set_same now (from + i) _ 0 (rw a.kept inside) ∙ rw (a.ahead i (le_refl i), is) refl

  elsewhere : (m : ℕ) → (m ≡ from + i → ⊥) → get_or after m 0 ≡ get_or now m 0
  elsewhere m other = get_or-set_other now (from + i) m _ 0 other

  pub added_next : Added from (i + 1) figures before after
  added_next =
      record {
        kept = length-set now (from + i) _ ∙ a.kept;
        done =
            λ j h. below_or_not j i
            (λ less. elsewhere (from + j) (λ (e : from + j ≡ from + i). omega arith) ∙ a.done j less)
            (λ more. let same : j ≡ i = omega arith in rw same here);
        ahead = λ j h. elsewhere (from + j) (λ (e : from + j ≡ from + i). omega arith) ∙ a.ahead j (omega arith);
        below = λ m h. elsewhere m (λ (e : m ≡ from + i). omega arith) ∙ a.below m h;
        most =
            λ m. below_or_not m (from + i)
            (λ less. rw (elsewhere m (λ (e : m ≡ from + i). omega arith)) (a.most m))
            (λ more. below_or_not (from + i) m
            (λ past. rw (elsewhere m (λ (e : m ≡ from + i). omega arith)) (a.most m))
            (λ not. let same : m ≡ from + i = omega arith in rw same (omega (arith, here, is, small))));
      }

-- sums of n cells with room for so many figures more
pub record Headroom (n more : ℕ) (sums : List ℕ) : Type 0 where
  pub few : n ≤ 4096
  pub sized : length sums ≡ 5 * n
  pub room : (m : ℕ) → get_or sums m 0 + more * 4294967295 ≤ roomy

pub headroom_first : (n : ℕ) (sums : List ℕ) (r : Results) → Addable n sums r → Headroom n 5 sums
headroom_first n sums r ok = record { few = ok.few; sized = ok.sized; room = ok.room }

pub headroom_next : {n more from i : ℕ} {figures before after : List ℕ} → Headroom n (more + 1) before → Added from i figures before after → Headroom n more after
headroom_next h a = record { few = h.few; sized = a.kept ∙ h.sized; room = λ m. omega (arith, h.room m, a.most m) }

-- what adding a part asks for
pub addable : {n more part : ℕ} {sums : List ℕ} (figures : List ℕ) → Headroom n more sums → part ≤ 4 → length figures ≡ n
    → (part * n + length figures ≤ length sums) × SumsRoom sums
addable {n} {more} {part} {sums} figures h p each = (
  rw (h.sized, each) (omega (arith, mul-le-mul_right n p)),
  record { few = rw h.sized (omega (arith, h.few)); each = λ m. omega (arith, h.room m) },
)

-- five parts, one after another
module _ (n : ℕ) (r : Results) (l₀ l₁ l₂ l₃ l₄ l₅ : List ℕ) (ok : Addable n l₀ r)
    (first : Added 0 (length r.intercepted) r.intercepted l₀ l₁)
    (second : Added n (length r.outflow) r.outflow l₁ l₂)
    (third : Added (2 * n) (length r.evapotranspired) r.evapotranspired l₂ l₃)
    (fourth : Added (3 * n) (length r.recharged) r.recharged l₃ l₄)
    (fifth : Added (4 * n) (length r.rejected) r.rejected l₄ l₅) where
  -- what is added to another part leaves a sum as it was
  past : {from : ℕ} {figures before after : List ℕ} → Added from (length figures) figures before after → (m : ℕ) → length figures ≡ n → from + n ≤ m
      → get_or after m 0 ≡ get_or before m 0
  past {from} a m sized h = let place : m ≡ from + (m - from) = omega arith in rw place (a.ahead (m - from) (rw sized (omega arith)))

  pub day_added : DayAdded n r l₀ l₅
  day_added =
      record {
        kept = fifth.kept ∙ fourth.kept ∙ third.kept ∙ second.kept ∙ first.kept;
        intercepted =
            λ i h. fifth.below i (omega arith) ∙ fourth.below i (omega arith) ∙ third.below i (omega arith) ∙ second.below i h
            ∙ (rw (zero-add i) at (first.done i (rw ok.intercepted h)));
        outflow =
            λ i h. fifth.below (n + i) (omega arith) ∙ fourth.below (n + i) (omega arith) ∙ third.below (n + i) (omega arith)
            ∙ second.done i (rw ok.outflow h)
            ∙ ap (λ (x : ℕ). x + get_or r.outflow i 0) (past first (n + i) ok.intercepted (omega arith));
        evapotranspired =
            λ i h. fifth.below (2 * n + i) (omega arith) ∙ fourth.below (2 * n + i) (omega arith)
            ∙ third.done i (rw ok.evapotranspired h)
            ∙ ap (λ (x : ℕ). x + get_or r.evapotranspired i 0)
            (past second (2 * n + i) ok.outflow (omega arith) ∙ past first (2 * n + i) ok.intercepted (omega arith));
        recharged =
            λ i h. fifth.below (3 * n + i) (omega arith)
            ∙ fourth.done i (rw ok.recharged h)
            ∙ ap (λ (x : ℕ). x + get_or r.recharged i 0)
            (past third (3 * n + i) ok.evapotranspired (omega arith) ∙ past second (3 * n + i) ok.outflow (omega arith)
            ∙ past first (3 * n + i) ok.intercepted (omega arith));
        rejected =
            λ i h. fifth.done i (rw ok.rejected h)
            ∙ ap (λ (x : ℕ). x + get_or r.rejected i 0)
            (past fourth (4 * n + i) ok.recharged (omega arith) ∙ past third (4 * n + i) ok.evapotranspired (omega arith)
            ∙ past second (4 * n + i) ok.outflow (omega arith) ∙ past first (4 * n + i) ok.intercepted (omega arith));
        most = λ m. omega (arith, first.most m, second.most m, third.most m, fourth.most m, fifth.most m);
      }
