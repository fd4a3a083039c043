-- The memory holds the five previous days and no other, today's rain has no say in today's condition and the
-- index that today sets has, and a fresh state is within the limits.
use mathlib.Core.Path.{◌≡◌, refl}
use mathlib.Core.Bool.{true}
use Prim.Native.Nat.{ℕ, suc, ◌<◌, ◌≤◌, zero-le}
use native.Mathlib.Nat.{le_refl}
use lib.Dec.{ltb}
use borrow.Author.Tests.{le-leb, ltb-true}
use Rattle.theory.proofs.Cases.{by_cases, and_both, cond_true, cond_false}
use Rattle.theory.proofs.ListLaws.{made_at}
use Rattle.paper.specs.Setup.{Setup, Climate, growing, cell, cells}
use Rattle.paper.specs.State.{Day, Memory, Past, past_after, remembered, five_days, fresh_state, most_soil_of, most_snow_of, soil_at, snow_at, stores_fit, memory_fits, last_fits, past_fits}
use Rattle.paper.specs.CurveNumber.{condition_of}
use Rattle.paper.specs.Frost.{counted}
use Rattle.paper.specs.CellDay.{today}
use Rattle.paper.specs.Refusals.{state_fits}

-- after five days nothing older is left
pub five_days_lem : (m : Memory) (a b c d e : ℕ)
    → remembered (remembered (remembered (remembered (remembered m a) b) c) d) e
    ≡ record { oldest = a; fourth = b; third = c; second = d; yesterday = e }
unfolding remembered
five_days_lem m a b c d e = refl

-- today's gross precipitation is not counted in the condition
pub today_not_counted : (c : Climate) (p : Past) (d e : Day) → d.day_of_year ≡ e.day_of_year → d.mean ≡ e.mean
    → (today c p d).condition ≡ (today c p e).condition
unfolding today
today_not_counted c p d e same mean = rw (same, mean) refl

-- the index that a day sets, which is the one handed on, decides what it counts as
pub just_set_decides : (c : Climate) (p : Past) (d : Day)
    → (today c p d).condition ≡ counted c.setpoints (past_after p d).frost (condition_of (growing c.season d.day_of_year) (five_days p.memory))
unfolding today
just_set_decides c p d = refl

pub fresh_fits : (s : Setup) (i : ℕ) → i < suc (cells s) → state_fits s (fresh_state s) i ≡ true
unfolding state_fits fresh_state stores_fit past_fits memory_fits last_fits
fresh_fits s i h =
    by_cases (ltb i (cells s))
    (λ e.
    let inside : i < cells s = ltb-true i (cells s) e in
    let soil : soil_at (fresh_state s) i ≤ most_soil_of (cell s i)
    = rw (made_at (cells s) (λ j. most_soil_of (cell s j)) 0 i inside) (le_refl (most_soil_of (cell s i))) in
    let snow : snow_at (fresh_state s) i ≤ most_snow_of (cell s i)
    = rw (made_at {A = ℕ} (cells s) (λ j. 0) 0 i inside) zero-le in
    rw (cond_true (ltb i (cells s)) e) (and_both _ _ (le-leb _ _ soil) (le-leb _ _ snow)))
    (λ e. rw (cond_false (ltb i (cells s)) e) refl)
