-- What a slot of a table that fits finds there: a whole entry of the table, with its numbers within the paper's limits. The entry's test has
-- the tests of all four groups, and the slot's group is one of them. And by the array of root depths a cell's soil holds its available water
-- times its slot's number, whatever the table.
use mathlib.Core.Path.{◌≡◌, refl, sym, ap, ◌∙◌}
use mathlib.Core.Bool.{Bool, true, cond}
use mathlib.Core.List.{List}
use Prim.Native.Nat.{ℕ, zero, suc, ◌+◌, ◌*◌, ◌/◌, ◌%◌, ◌≤◌, ◌<◌, min, zero-le}
use native.Mathlib.Nat.{mul-zero, add-zero}
use native.Mathlib.Omega.{arith}
use lib.ListN.{length, get_or, set, replicate, length-replicate, get_or-replicate, get_or-eq_default}
use borrow.Author.Tests.{leb-true}
use Rattle.theory.specs.Lists.{made, made_over}
use Rattle.theory.proofs.Cases.{and_left, and_right}
use Rattle.theory.proofs.ListLaws.{made_at, over_whole, wrote}
use Rattle.paper.specs.Covers.{number_of, root_depth_of, entries, group_fits, entry_fits}
use Rattle.paper.specs.State.{most_soil_of}
use Rattle.covers.specs.Table.{EntriesFit}
use Rattle.covers.specs.Slots.{open_at, group_number_at, cell_from}

-- past the table's numbers there is nothing
pub past_table : (covers : List ℕ) (slot k : ℕ) → length covers / 16 < slot / 4 → 0 ≡ number_of covers (slot / 4) k
past_table covers slot k h = sym (get_or-eq_default covers 0 {n = 16 * (slot / 4) + k} (omega arith))

-- an entry that the table has, it has whole
pub entry_there : (covers : List ℕ) (slot : ℕ) → slot < 4 * entries covers → 16 * (slot / 4) + 16 ≤ length covers
unfolding entries
entry_there covers slot h = omega arith

pub past_numbers : (covers : List ℕ) (at : ℕ) → length covers ≤ at → 0 ≡ get_or covers at 0
past_numbers covers at h = sym (get_or-eq_default covers 0 {n = at} h)

nothing : (b : Bool) → cond {A = ℕ} b 0 0 ≡ 0
nothing true = refl
nothing Bool.false = refl

pub past_slots : (covers : List ℕ) (base slot : ℕ) → length covers ≤ 16 * (slot / 4) → group_number_at covers base slot ≡ 0
unfolding group_number_at
past_slots covers base slot h =
    rw (← past_numbers covers (16 * (slot / 4) + (base + (slot % 4 + 1))) (omega arith)) (nothing (open_at covers slot))

times_given : (b : Bool) (x d : ℕ) → x * cond b 0 d ≡ cond b 0 (x * d)
times_given true x d = mul-zero x
times_given Bool.false x d = refl

given_most : (b : Bool) (d most : ℕ) → d ≤ most → cond b 0 d ≤ most
given_most true d most h = zero-le
given_most Bool.false d most h = h

-- a cell's most soil, by the root depth of its slot
pub soil_most : (covers : List ℕ) (slot available way : ℕ) → available * group_number_at covers 11 slot ≡ most_soil_of (cell_from covers slot available way)
unfolding group_number_at most_soil_of cell_from
soil_most covers slot available way = times_given (open_at covers slot) available _

pub root_at : (covers roots : List ℕ) (slot : ℕ) → roots ≡ made 256 (group_number_at covers 11) → slot < 256
    → get_or roots slot 0 ≡ group_number_at covers 11 slot
root_at covers roots slot e h = rw e (made_at 256 (group_number_at covers 11) 0 slot h)

-- the slots below those of which the table has a number, written over zeros, are all
pub roots_whole : (covers : List ℕ) (slots : ℕ) → slots ≤ 256 → slots % 4 ≡ 0 → min (length covers) 1024 ≤ 4 * slots
    → made_over slots (group_number_at covers 11) (replicate 256 0) ≡ made 256 (group_number_at covers 11)
roots_whole covers slots few whole covered =
    over_whole 256 slots (group_number_at covers 11) (replicate 256 0) 0 (length-replicate {A = ℕ} 256 0) few
    (λ i past low. get_or-replicate {A = ℕ} 256 i 0 0 low ∙ sym (past_slots covers 11 i (omega arith)))

-- an entry's four slots, written one after another
module _ (covers : List ℕ) (open? : Bool) (slot : ℕ) (flag : open? ≡ open_at covers slot) (whole : slot % 4 ≡ 0) (room : slot + 4 ≤ 256) where
  root_of : (j x k : ℕ) → j < 4 → k ≡ 12 + j → x ≡ cond open? 0 (number_of covers (slot / 4) k) → x ≡ group_number_at covers 11 (slot + j)
  unfolding group_number_at
  root_of j x k h ek ex =
      let entry : (slot + j) / 4 ≡ slot / 4 = omega arith in
      let group : 11 + ((slot + j) % 4 + 1) ≡ k = omega arith in
      rw (entry, group, ← flag) ex

  pub roots_four : (roots : List ℕ) (a b c d : ℕ) → roots ≡ made_over slot (group_number_at covers 11) (replicate 256 0)
      → a ≡ cond open? 0 (number_of covers (slot / 4) 12) → b ≡ cond open? 0 (number_of covers (slot / 4) 13)
      → c ≡ cond open? 0 (number_of covers (slot / 4) 14) → d ≡ cond open? 0 (number_of covers (slot / 4) 15)
      → set (set (set (set roots slot a) (slot + 1) b) (slot + 2) c) (slot + 3) d ≡ made_over (slot + 4) (group_number_at covers 11) (replicate 256 0)
  roots_four roots a b c d e ea eb ec ed =
      let one : set roots slot a ≡ made_over (slot + 1) (group_number_at covers 11) (replicate 256 0) = rw (add-zero slot) at (write 0 a 12 roots (rw (add-zero slot) e) (omega arith) refl ea) in
      write 3 d 15 _ (write 2 c 14 _ (write 1 b 13 _ one (omega arith) refl eb) (omega arith) refl ec) (omega arith) refl ed
    where
      write : (j x k : ℕ) (now : List ℕ) → now ≡ made_over (slot + j) (group_number_at covers 11) (replicate 256 0) → j < 4 → k ≡ 12 + j
          → x ≡ cond open? 0 (number_of covers (slot / 4) k) → set now (slot + j) x ≡ made_over (slot + (j + 1)) (group_number_at covers 11) (replicate 256 0)
      write j x k now en h ek ex =
          let next : slot + j + 1 ≡ slot + (j + 1) = omega arith in
          wrote (group_number_at covers 11) (replicate 256 0) now (slot + j) x en (root_of j x k h ek ex) (rw (length-replicate {A = ℕ} 256 0) (omega arith))
          ∙ ap (λ (i : ℕ). made_over i (group_number_at covers 11) (replicate 256 0)) next

-- a group of four, counted from 0
four : (P : ℕ → Type 0) → P 0 → P 1 → P 2 → P 3 → (k : ℕ) → k < 4 → P k
four P a b c d zero h = a
four P a b c d (suc zero) h = b
four P a b c d (suc (suc zero)) h = c
four P a b c d (suc (suc (suc zero))) h = d
four P a b c d (suc (suc (suc (suc k)))) h = absurd (omega arith)

module _ (covers : List ℕ) (fit : EntriesFit covers) (slot : ℕ) (h : slot < 4 * entries covers) where
  group : group_fits covers (slot / 4) (slot % 4 + 1) ≡ true
  unfolding entry_fits
  group =
      let fits : entry_fits covers (slot / 4) ≡ true = fit.fit (slot / 4) (omega arith) in
      four (λ k. group_fits covers (slot / 4) (k + 1) ≡ true) (search (and_left, and_right) depth 9) (search (and_left, and_right) depth 9)
      (search (and_left, and_right) depth 9) (search (and_left, and_right) depth 9) (slot % 4) (omega arith)

  root_depth_limit : root_depth_of covers (slot / 4) (slot % 4 + 1) ≤ 1000
  unfolding group_fits
  root_depth_limit = let fits : group_fits covers (slot / 4) (slot % 4 + 1) ≡ true = group in leb-true _ _ (search (and_left, and_right) depth 6)

  pub root_most : group_number_at covers 11 slot ≤ 1000
  unfolding group_number_at
  root_most = given_most (open_at covers slot) _ 1000 root_depth_limit
