-- Names in either letter case, byte by byte, and a word's size by its number.
use mathlib.Core.Bool.{Bool, true, false, true≢false}
use mathlib.Core.List.{List, [], ◌∷◌}
use mathlib.Core.Path.{◌≡◌, refl, sym, ap, ◌∙◌}
use Prim.Native.Nat.{ℕ, zero, suc, ◌+◌, ◌≤◌, ◌<◌}
use native.Mathlib.Numerals.{add-one}
use native.Mathlib.Omega.{arith}
use lib.Dec.{eqb}
use lib.IntN.{ℤ, pos, negsuc, nat_abs}
use lib.Signed.{le_z}
use lib.ListN.{length, get_or, drop, drop_of_length-le}
use lib.Seq.{drop-cons}
use borrow.Author.Tests.{eq-eqb, ne_eqb, le-leb}
use Rattle.theory.proofs.Cases.{by_cases}
use Rattle.std.specs.Prelude.{Some, None}
use Rattle.words.specs.Numbers.{Word, good, bad, number_in}
use Rattle.grids.specs.Headers.{size_of, lower, lowered, same}

-- bytes in lower case, one by one
pub lowered_length : (xs : List ℕ) → length (lowered xs) ≡ length xs
unfolding lowered
lowered_length [] = refl
lowered_length (x ∷ xs) = ap suc (lowered_length xs)

pub lowered_at : (xs : List ℕ) (i : ℕ) → get_or (lowered xs) i 0 ≡ lower (get_or xs i 0)
unfolding lowered lower
lowered_at [] i = refl
lowered_at (x ∷ xs) zero = refl
lowered_at (x ∷ xs) (suc i) = lowered_at xs i

-- two lists: of other lengths they are not the same, and from a place on they are as the bytes there say
pub other_length : (xs ys : List ℕ) → (length xs ≡ length ys → ⊥) → same xs ys ≡ false
unfolding same
other_length [] [] n = absurd (n refl)
other_length [] (y ∷ ys) n = refl
other_length (x ∷ xs) [] n = refl
other_length (x ∷ xs) (y ∷ ys) n = by_cases (eqb x y) (λ e. rw e (other_length xs ys (λ s. n (ap suc s)))) (λ e. rw e refl)

abbrev pub left : List ℕ → List ℕ → ℕ → Bool
left xs ys i = same (drop i xs) (drop i ys)

module _ (xs ys : List ℕ) (i : ℕ) (sized : length xs ≡ length ys) where
  module _ (h : i < length xs) where
    there : i < length ys
    there = omega (arith, h, sized)

    pub same_next : get_or xs i 0 ≡ get_or ys i 0 → left xs ys i ≡ left xs ys (i + 1)
    unfolding same
    same_next e = rw (drop-cons xs i 0 h, drop-cons ys i 0 there, eq-eqb (get_or xs i 0) (get_or ys i 0) e, add-one i) refl

    pub same_stop : (get_or xs i 0 ≡ get_or ys i 0 → ⊥) → left xs ys i ≡ false
    unfolding same
    same_stop n = rw (drop-cons xs i 0 h, drop-cons ys i 0 there, ne_eqb (get_or xs i 0) (get_or ys i 0) n) refl

  pub same_end : length xs ≤ i → left xs ys i ≡ true
  unfolding same
  same_end h =
      let past : length ys ≤ i = omega (arith, h, sized) in
      rw (drop_of_length-le xs {i = i} h, drop_of_length-le ys {i = i} past) refl

-- columns or rows by a word's number
pub size_plain : (m : Word) (z : ℤ) → Some z ≡ number_in m → le_z (pos 0) z ≡ true → nat_abs z ≡ size_of m
unfolding number_in size_of
size_plain (good (pos k)) z e p = let same : z ≡ pos k = cc in rw same refl
size_plain (good (negsuc k)) z e p = let same : z ≡ negsuc k = cc in absurd (true≢false (sym (rw same at p)))
size_plain bad z e p = absurd (let o : ◌≡◌ {A = ℕ} 0 1 = cc in omega arith)

pub size_below : (m : Word) (z : ℤ) → Some z ≡ number_in m → le_z (pos 0) z ≡ false → 0 ≡ size_of m
unfolding number_in size_of
size_below (good (pos k)) z e p = let same : z ≡ pos k = cc in absurd (true≢false (sym (le-leb 0 k (omega arith)) ∙ rw same at p))
size_below (good (negsuc k)) z e p = refl
size_below bad z e p = absurd (let o : ◌≡◌ {A = ℕ} 0 1 = cc in omega arith)

pub size_bad : (m : Word) → None ≡ number_in m → 0 ≡ size_of m
unfolding number_in size_of
size_bad (good z) e = absurd (let o : ◌≡◌ {A = ℕ} 0 1 = cc in omega arith)
size_bad bad e = refl
