-- Words out of their bytes: a blank parts the words before it from those after it, and bytes without a blank are one word. So is a number as it is written:
-- its bytes are digits, and a minus.
use mathlib.Core.Path.{◌≡◌, refl, ap}
use mathlib.Core.Bool.{true, false}
use mathlib.Core.List.{List, [], ◌∷◌, ◌++◌}
use Prim.Native.Nat.{ℕ, zero, suc, ◌+◌, ◌/◌, ◌%◌, ◌≤◌, ◌<◌}
use native.Mathlib.Nat.{le_refl}
use native.Mathlib.Omega.{arith}
use lib.IntN.{ℤ, pos, negsuc}
use borrow.Author.Tests.{ne_eqb}
use Rattle.theory.proofs.Cases.{by_cases, below_or_not}
use Rattle.words.specs.Words.{is_blank, longer, pieces, kept, words}
use Rattle.words.specs.Digits.{digits, written}
use Rattle.words.proofs.WordLaws.{first_piece}
use Rattle.words.proofs.DigitLaws.{digits_one, digits_more}

-- ---- parted by a blank
kept_append : (ps qs : List (List ℕ)) → kept (ps ++ qs) ≡ kept ps ++ kept qs
unfolding kept
kept_append [] qs = refl
kept_append ([] ∷ ps) qs = kept_append ps qs
kept_append ((b ∷ p) ∷ ps) qs = ap (λ (l : List (List ℕ)). (b ∷ p) ∷ l) (kept_append ps qs)

pieces_blank : (xs : List ℕ) (b : ℕ) (ys : List ℕ) → is_blank b ≡ true → pieces (xs ++ b ∷ ys) ≡ pieces xs ++ pieces ys
unfolding pieces longer
pieces_blank [] b ys e = rw e refl
pieces_blank (x ∷ xs) b ys e =
    by_cases (is_blank x) (λ t. rw (t, pieces_blank xs b ys e) refl) (λ f. rw (f, pieces_blank xs b ys e, first_piece xs) refl)

pub words_blank : (xs : List ℕ) (b : ℕ) (ys : List ℕ) → is_blank b ≡ true → words (xs ++ b ∷ ys) ≡ words xs ++ words ys
unfolding words
words_blank xs b ys e = rw (pieces_blank xs b ys e) (kept_append (pieces xs) (pieces ys))

pub words_first : (w : List ℕ) (b : ℕ) (ys : List ℕ) → is_blank b ≡ true → words w ≡ w ∷ [] → words (w ++ b ∷ ys) ≡ w ∷ words ys
words_first w b ys e one = rw (words_blank w b ys e, one) refl

-- ---- at least one byte, each of them such
pub data Each (P : ℕ → Type 0) : List ℕ → Type 0 where
  last : {b : ℕ} → P b → Each P (b ∷ [])
  next : {b : ℕ} {bs : List ℕ} → P b → Each P bs → Each P (b ∷ bs)

pub each_then : {P : ℕ → Type 0} {xs ys : List ℕ} → Each P xs → Each P ys → Each P (xs ++ ys)
each_then (last p) more = next p more
each_then (next p each) more = next p (each_then each more)

each_map : {P Q : ℕ → Type 0} → ((b : ℕ) → P b → Q b) → {w : List ℕ} → Each P w → Each Q w
each_map f (last p) = last (f _ p)
each_map f (next p each) = next (f _ p) (each_map f each)

one_piece : {w : List ℕ} → Each (λ b. is_blank b ≡ false) w → pieces w ≡ w ∷ []
unfolding pieces longer
one_piece (last e) = rw e refl
one_piece (next e each) = rw (e, one_piece each) refl

pub solid_word : {w : List ℕ} → Each (λ b. is_blank b ≡ false) w → words w ≡ w ∷ []
unfolding words kept
solid_word (last e) = rw (one_piece (last e)) refl
solid_word (next e each) = rw (one_piece (next e each)) refl

-- ---- the bytes of numbers lie from 45, a minus, over 46, a point, to the digits, 48 to 57
pub record Figure (b : ℕ) : Type 0 where
  pub low : 45 ≤ b
  pub high : b ≤ 57

pub figure : (b : ℕ) → 45 ≤ b → b ≤ 57 → Figure b
figure b low high = record { low = low; high = high }

figure_solid : (b : ℕ) → Figure b → is_blank b ≡ false
unfolding is_blank
figure_solid b f = rw (ne_eqb b 32 (λ e. omega (arith, f.low)), ne_eqb b 10 (λ e. omega (arith, f.low))) refl

pub figures_word : {w : List ℕ} → Each Figure w → words w ≡ w ∷ []
figures_word each = solid_word (each_map figure_solid each)

digit_figure : (n : ℕ) → n < 10 → Each Figure ((48 + n) ∷ [])
digit_figure n h = last (figure (48 + n) (omega arith) (omega arith))

figures_within : (most n : ℕ) → n ≤ most → Each Figure (digits n)
figures_within zero n h = rw (digits_one n (omega arith)) (digit_figure n (omega arith))
figures_within (suc most) n h =
    below_or_not n 10 (λ one. rw (digits_one n one) (digit_figure n one))
    (λ more. rw (digits_more n more) (each_then (figures_within most (n / 10) (omega arith)) (digit_figure (n % 10) (omega arith))))

pub digits_figures : (n : ℕ) → Each Figure (digits n)
digits_figures n = figures_within n n (le_refl n)

pub written_figures : (z : ℤ) → Each Figure (written z)
unfolding written
written_figures (pos n) = digits_figures n
written_figures (negsuc m) = next (figure 45 (omega arith) (omega arith)) (digits_figures (suc m))

pub digits_word : (n : ℕ) → words (digits n) ≡ digits n ∷ []
digits_word n = figures_word (digits_figures n)

pub written_word : (z : ℤ) → words (written z) ≡ written z ∷ []
written_word z = figures_word (written_figures z)
