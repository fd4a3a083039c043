-- Bytes put one after another into a buffer are put together, also where the buffer ends between them: past its end nothing is written. They are at most
-- as many as the parts' bounds together.
use mathlib.Core.Path.{◌≡◌, refl, sym, ap, ◌∙◌}
use mathlib.Core.List.{List, [], ◌∷◌, ◌++◌}
use Prim.Native.Nat.{ℕ, suc, ◌+◌, ◌≤◌, ◌<◌, min}
use native.Mathlib.Nat.{le_refl}
use native.Mathlib.Numerals.{add-one}
use native.Mathlib.Omega.{arith}
use lib.ListN.{length, get_or, take, length-append}
use lib.Seq.{sets, length-sets, set_out, take-suc, take_all}
use Rattle.theory.proofs.Cases.{below_or_not}
use Rattle.theory.proofs.ListLaws.{sets_append}
use Rattle.words.specs.Writing.{farthest, Put, Wrote}

pub sets_out : (xs l : List ℕ) (i : ℕ) → length l ≤ i → sets l i xs ≡ l
sets_out [] l i h = refl
sets_out (x ∷ xs) l i h = rw (set_out l i x h) (sets_out xs l (suc i) (omega arith))

-- a place past the farthest is past every buffer's end, as the farthest is
far : (ys l : List ℕ) (i : ℕ) → length l ≤ farthest → sets l (min i farthest) ys ≡ sets l i ys
far ys l i h =
    below_or_not i farthest (λ near. ap (λ (k : ℕ). sets l k ys) (omega arith))
    (λ past. sets_out ys l (min i farthest) (omega arith) ∙ sym (sets_out ys l i (omega arith)))

pub put_length : {at r : ℕ} {xs l l' : List ℕ} → Put at xs l l' r → length l' ≡ length l
put_length {at} {r} {xs} {l} {l'} w = ap length w.buffer ∙ length-sets l at xs

pub put_then :
    {at m r : ℕ} {xs ys l l₁ l₂ : List ℕ} → length l ≤ farthest → Put at xs l l₁ m → Put m ys l₁ l₂ r → Put at (xs ++ ys) l l₂ r
put_then {at} {m} {r} {xs} {ys} {l} {l₁} {l₂} h w v =
    record {
      buffer = v.buffer ∙ rw (w.end, far ys l₁ (at + length xs) (rw (put_length w) h), w.buffer) (sym (sets_append xs ys l at));
      end = v.end ∙ omega (arith, w.end, length-append xs ys);
    }

-- the same bytes under another name
pub put_as : {at r : ℕ} {xs l l' : List ℕ} (ys : List ℕ) → Put at xs l l' r → xs ≡ ys → Put at ys l l' r
put_as {at} {r} {xs} {l} {l'} ys w e = rw (← e) w

-- nothing, and a byte that finds no place
pub put_none : (at : ℕ) (l : List ℕ) → at ≤ farthest → Put at [] l l at
put_none at l h = record { buffer = refl; end = omega arith }

pub none_stored : (x at : ℕ) (l : List ℕ) → length l ≤ at → sets l at (x ∷ []) ≡ l
none_stored x at l h = set_out l at x h

-- bytes one by one
pub put_next :
    {at m r : ℕ} {l l₁ l₂ : List ℕ} (bytes : List ℕ) (i : ℕ) → length l ≤ farthest → i < length bytes → Put at (take i bytes) l l₁ m
    → Put m (get_or bytes i 0 ∷ []) l₁ l₂ r
    → Put at (take (i + 1) bytes) l l₂ r
put_next bytes i h more w v = rw (add-one i, take-suc bytes i 0 more) (put_then h w v)

pub put_all : {at r : ℕ} {l l' : List ℕ} (bytes : List ℕ) (i : ℕ) → length bytes ≤ i → Put at (take i bytes) l l' r → Put at bytes l l' r
put_all bytes i h w = put_as bytes w (take_all i bytes h)

-- what is written of at most so many bytes
pub wrote_length : {a at r : ℕ} {xs l l' : List ℕ} → Wrote a at xs l l' r → length l' ≡ length l
wrote_length w = put_length w.put

-- the same bytes under another name, and their own bound
pub wrote_as :
    {a at r : ℕ} {xs l l' : List ℕ} (b : ℕ) (ys : List ℕ) → Wrote a at xs l l' r → xs ≡ ys → length ys ≤ b
    → Wrote b at ys l l' r
wrote_as b ys w e h = record { put = put_as ys w.put e; short = h }

pub wrote_whole : {a b at r : ℕ} {xs ys l l' : List ℕ} → ys ≡ xs → a ≤ b → Wrote a at xs l l' r → Wrote b at ys l l' r
wrote_whole {b = b} {ys = ys} e h w = wrote_as b ys w (sym e) (omega (arith, w.short, ap length e))

pub wrote_bytes : {at r : ℕ} {xs l l' : List ℕ} → Put at xs l l' r → Wrote (length xs) at xs l l' r
wrote_bytes {xs = xs} p = record { put = p; short = le_refl (length xs) }

-- one part after another, in a buffer as long as the machine's can be
pub wrote_then :
    {a b at mid r : ℕ} {xs ys l l₁ l₂ : List ℕ} → length l ≤ farthest → Wrote a at xs l l₁ mid → Wrote b mid ys l₁ l₂ r
    → Wrote (a + b) at (xs ++ ys) l l₂ r
wrote_then {xs = xs} {ys = ys} long w v =
    record { put = put_then long w.put v.put; short = omega (arith, w.short, v.short, length-append xs ys) }
