-- What a line's parts put into the buffer one after another is the line, and its length is at most the parts' together.
use mathlib.Core.Path.{◌≡◌, ap, ◌∙◌}
use mathlib.Core.List.{List, [], ◌∷◌, ◌++◌, append_assoc}
use Prim.Native.Nat.{ℕ, ◌+◌, ◌^◌, ◌≤◌, ◌<◌}
use native.Mathlib.Omega.{arith}
use lib.ListN.{length, length-append}
use lib.Seq.{append_snoc}
use Rattle.words.specs.Digits.{digits}
use Rattle.words.specs.Writing.{farthest, Put, Wrote}
use Rattle.words.proofs.DigitLaws.{digits_short}
use Rattle.words.proofs.WritingLaws.{wrote_then}
use Rattle.lines.specs.Lines.{row}
use Rattle.lines.specs.Writing.{most_item}

-- a number of 64 bits and the byte after it
pub wrote_item :
    {at r : ℕ} {l l' : List ℕ} (n end : ℕ) → n < 2 ^ 64 → Put at (digits n ++ end ∷ []) l l' r → Wrote most_item at (digits n ++ end ∷ []) l l' r
wrote_item n end fits p = record { put = p; short = omega (arith, digits_short n fits, length-append (digits n) (end ∷ [])) }

pub row_last : {a at r : ℕ} {l l' : List ℕ} (n : ℕ) → Wrote a at (digits n ++ 10 ∷ []) l l' r → Wrote a at (row n []) l l' r
unfolding row
row_last n w = w

pub row_two :
    {a at r : ℕ} {l l' : List ℕ} (m n : ℕ) → Wrote a at (digits m ++ 32 ∷ (digits n ++ 10 ∷ [])) l l' r → Wrote a at (row m (n ∷ [])) l l' r
unfolding row
row_two m n w = w

-- one part after another, in a buffer as long as the machine's can be
module _ {at mid r : ℕ} {l l₁ l₂ : List ℕ} (long : length l ≤ farthest) where
  -- a number with the byte after it, before what follows
  pub item_then :
      {a b : ℕ} (n end : ℕ) (ys : List ℕ) → Wrote a at (digits n ++ end ∷ []) l l₁ mid → Wrote b mid ys l₁ l₂ r
      → Wrote (a + b) at (digits n ++ end ∷ ys) l l₂ r
  item_then n end ys w v = rw (← append_snoc (digits n) end ys) (wrote_then long w v)

  pub row_pair :
      {a b : ℕ} (m n k : ℕ) (ks : List ℕ) → Wrote a at (digits m ++ 32 ∷ (digits n ++ 32 ∷ [])) l l₁ mid → Wrote b mid (row k ks) l₁ l₂ r
      → Wrote (a + b) at (row m (n ∷ k ∷ ks)) l l₂ r
  unfolding row
  row_pair m n k ks w v = rw (← pair_append) (wrote_then long w v)
    where
      pair_append : (digits m ++ 32 ∷ (digits n ++ 32 ∷ [])) ++ row k ks ≡ digits m ++ 32 ∷ (digits n ++ 32 ∷ row k ks)
      pair_append = append_assoc (digits m) (32 ∷ (digits n ++ 32 ∷ [])) (row k ks)
          ∙ ap (λ (l : List ℕ). digits m ++ 32 ∷ l) (append_snoc (digits n) 32 (row k ks))
