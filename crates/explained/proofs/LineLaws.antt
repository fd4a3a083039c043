-- The lines of a day: parts put one after another are the line, and its length is at most the parts' together.
use mathlib.Core.Path.{◌≡◌}
use mathlib.Core.List.{List, ◌++◌, append_assoc}
use Prim.Native.Nat.{ℕ, ◌+◌, ◌^◌, ◌≤◌, ◌<◌}
use native.Mathlib.Omega.{arith}
use lib.ListN.{length}
use Rattle.words.specs.Digits.{digits, bytes}
use Rattle.words.specs.Writing.{farthest, Put, Wrote}
use Rattle.words.proofs.DigitLaws.{digits_short}
use Rattle.words.proofs.WritingLaws.{wrote_length, wrote_then}
use Rattle.words.specs.Inches.{inches}
use Rattle.paper.specs.Reasons.{Reason, open_water, under_snow, no_water, below_potential, room_for_all, above_largest, all_recharged}
use Rattle.explained.specs.Lines.{say, reason_words, second_words, most_serial, most_reason_line}

pub wrote_number : {at r : ℕ} {l l' : List ℕ} (n : ℕ) → n < 2 ^ 64 → Put at (digits n) l l' r → Wrote 20 at (digits n) l l' r
wrote_number n fits p = record { put = p; short = digits_short n fits }

pub wrote_within : {a b at r : ℕ} {xs l l' : List ℕ} → Wrote a at xs l l' r → a ≤ b → Wrote b at xs l l' r
wrote_within w h = record { put = w.put; short = omega (arith, w.short) }

-- what has room stays within the buffer
pub wrote_inside : {most r : ℕ} {xs l l' : List ℕ} → Wrote most 0 xs l l' r → most ≤ length l → r ≤ length l'
wrote_inside w h = omega (arith, w.put.end, w.short, wrote_length w)

-- one part after another: the buffer is as long as it was
module _ {a b at mid r : ℕ} {l l₁ l₂ : List ℕ} (long : length l ≤ farthest) where
  pub part_then : {xs ys : List ℕ} → Wrote a at xs l l₁ mid → (length l₁ ≤ farthest → Wrote b mid ys l₁ l₂ r) → Wrote (a + b) at (xs ++ ys) l l₂ r
  part_then w v = wrote_then long w (v (rw (wrote_length w) long))

  -- words and a depth, before what follows
  pub say_then :
      (words : List ℕ) (depth : ℕ) (rest : List ℕ) → Wrote a at (words ++ inches depth) l l₁ mid → (length l₁ ≤ farthest → Wrote b mid rest l₁ l₂ r)
      → Wrote (a + b) at (say words depth rest) l l₂ r
  unfolding say
  say_then words depth rest w v = rw (← append_assoc words (inches depth) rest) (part_then w v)

  -- two of them
  pub two_then :
      (words : List ℕ) (depth : ℕ) (beside : List ℕ) (second : ℕ) (rest : List ℕ)
      → Wrote a at (say words depth (beside ++ inches second)) l l₁ mid → (length l₁ ≤ farthest → Wrote b mid rest l₁ l₂ r)
      → Wrote (a + b) at (say words depth (say beside second rest)) l l₂ r
  unfolding say
  two_then words depth beside second rest w v = rw (← regroup) (part_then w v)
    where
      regroup : (words ++ (inches depth ++ (beside ++ inches second))) ++ rest ≡ words ++ (inches depth ++ (beside ++ (inches second ++ rest)))
      regroup = simp append_assoc

-- a reason's words leave room for its line
pub words_fit : (r : Reason) → length (bytes (reason_words r)) + length (bytes (second_words r)) + most_serial ≤ most_reason_line
unfolding reason_words second_words bytes
words_fit open_water = omega arith
words_fit under_snow = omega arith
words_fit no_water = omega arith
words_fit below_potential = omega arith
words_fit room_for_all = omega arith
words_fit above_largest = omega arith
words_fit all_recharged = omega arith
