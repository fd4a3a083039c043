-- A made list has its rule's length and elements, and a list over whose front a rule is written takes one more place of it by one store. Each
-- law follows the rule's own recursion, or cuts the list at the place where the rule ends.
use mathlib.Core.Path.{◌≡◌, refl, sym, ap, ◌∙◌}
use mathlib.Core.List.{List, [], ◌∷◌, ◌++◌, append-nil}
use Prim.Native.Nat.{ℕ, zero, suc, ◌+◌, ◌-◌, ◌≤◌, ◌<◌, suc-le-suc}
use native.Mathlib.Nat.{not-suc-le-zero, le_of_suc-le-suc, zero-lt-suc, add-zero, add-suc, suc-add, add-sub_of_le, le_of_eq}
use native.Mathlib.Numerals.{add-one}
use native.Mathlib.Omega.{arith}
use lib.ListN.{length, get_or, set, take, drop, length-append, length-drop, length-set, drop_of_length-le, get_or-append}
use lib.Dec.{eqb}
use lib.Seq.{sets, drop-cons, set_at, append_snoc, get_or-append-add, get_or-drop, get_or-set_same, get_or-set_other, ext_get_or}
use borrow.Author.Tests.{eqb-true, eqb-false}
use Rattle.theory.specs.Lists.{made, made_over}
use Rattle.theory.proofs.Cases.{by_cases, below_or_not}

module _ {A : Type 0} where
  pub made_length : (n : ℕ) (f : ℕ → A) → length (made n f) ≡ n
  unfolding made
  made_length zero f = refl
  made_length (suc n) f = ap suc (made_length n (λ i. f (suc i)))

  pub made_at : (n : ℕ) (f : ℕ → A) (d : A) (i : ℕ) → i < n → get_or (made n f) i d ≡ f i
  unfolding made
  made_at zero f d i h = absurd (not-suc-le-zero h)
  made_at (suc n) f d zero h = refl
  made_at (suc n) f d (suc i) h = made_at n (λ j. f (suc j)) d i (le_of_suc-le-suc h)

  pub made_cong : (n : ℕ) (f g : ℕ → A) → ((i : ℕ) → i < n → f i ≡ g i) → made n f ≡ made n g
  unfolding made
  made_cong zero f g e = refl
  made_cong (suc n) f g e =
      λ t. e 0 (zero-lt-suc n) t ∷ made_cong n (λ i. f (suc i)) (λ i. g (suc i)) (λ i h. e (suc i) (suc-le-suc h)) t

  pub made_snoc : (n : ℕ) (f : ℕ → A) → made (suc n) f ≡ made n f ++ (f n ∷ [])
  unfolding made
  made_snoc zero f = refl
  made_snoc (suc n) f = ap (λ (l : List A). f 0 ∷ l) (made_snoc n (λ i. f (suc i)))

  pub made_of : (l : List A) (d : A) → made (length l) (λ i. get_or l i d) ≡ l
  unfolding made
  made_of [] d = refl
  made_of (x ∷ xs) d = ap (λ (l : List A). x ∷ l) (made_of xs d)

  pub over_none : (f : ℕ → A) (l : List A) → made_over 0 f l ≡ l
  unfolding made_over made
  over_none f l = refl

  pub over_more : (n : ℕ) (f : ℕ → A) (l : List A) → n < length l → set (made_over n f l) n (f n) ≡ made_over (suc n) f l
  unfolding made_over
  over_more n f l h =
      rw (drop-cons l n (f n), made_snoc) (set_at (made n f) (get_or l n (f n)) (drop (suc n) l) (f n) n (made_length n f)
      ∙ sym (append_snoc (made n f) (f n) (drop (suc n) l)))

  pub over_all : (n : ℕ) (f : ℕ → A) (l : List A) → length l ≡ n → made_over n f l ≡ made n f
  unfolding made_over
  over_all n f l e = rw (drop_of_length-le l {i = n} (le_of_eq e), append-nil)

  pub over_length : (n : ℕ) (f : ℕ → A) (l : List A) → n ≤ length l → length (made_over n f l) ≡ length l
  unfolding made_over
  over_length n f l h = simp (length-append, made_length, length-drop) (omega arith)

  pub over_ahead : (n : ℕ) (f : ℕ → A) (l : List A) (d : A) (i : ℕ) → n ≤ i → get_or (made_over n f l) i d ≡ get_or l i d
  unfolding made_over
  over_ahead n f l d i h =
      rw (← add-sub_of_le h) (ap (λ (k : ℕ). get_or (made n f ++ drop n l) (k + (i - n)) d) (sym (made_length n f))
      ∙ get_or-append-add (made n f) (drop n l) (i - n) d ∙ get_or-drop n l (i - n) d)

  -- what stands where the rule is written, and the next place to be written is inside
  pub over_at : (n : ℕ) (f : ℕ → A) (l : List A) (d : A) (i : ℕ) → i < n → get_or (made_over n f l) i d ≡ f i
  unfolding made_over
  over_at n f l d i h = get_or-append (made n f) (drop n l) d i (rw made_length h) ∙ made_at n f d i h

  pub over_room : (f : ℕ → A) (l before : List A) (i : ℕ) → l ≡ made_over i f before → i < length before → i < length l
  over_room f l before i e h = rw (e, over_length i f before (omega arith)) h

  -- where the list beyond already is the rule's, all of it is
  pub over_whole : (n k : ℕ) (f : ℕ → A) (l : List A) (d : A) → length l ≡ n → k ≤ n → ((i : ℕ) → k ≤ i → i < n → get_or l i d ≡ f i)
      → made_over k f l ≡ made n f
  over_whole n k f l d size h rest =
      let whole : length (made_over k f l) ≡ n = over_length k f l (omega arith) ∙ size in
      ext_get_or d (made_over k f l) (made n f) (whole ∙ sym (made_length n f))
      (λ i inside. let low : i < n = rw whole at inside in
      (below_or_not i k (over_at k f l d i) (λ past. over_ahead k f l d i past ∙ rest i past low)) ∙ sym (made_at n f d i low))

-- inside a list the default is of no account
pub in_range : (l : List ℕ) (i d e : ℕ) → i < length l → get_or l i d ≡ get_or l i e
in_range [] i d e h = absurd (not-suc-le-zero h)
in_range (x ∷ l) zero d e h = refl
in_range (x ∷ l) (suc i) d e h = in_range l i d e (le_of_suc-le-suc h)

-- a part of a list, by index
pub take_made : (n a : ℕ) (l : List ℕ) → a + n ≤ length l → take n (drop a l) ≡ made n (λ i. get_or l (a + i) 0)
unfolding made
take_made zero a l h = refl
take_made (suc n) a l h =
    rw (drop-cons l a 0 (omega arith), add-zero a)
    (ap (λ (r : List ℕ). get_or l a 0 ∷ r)
    (take_made n (suc a) l (omega arith) ∙ made_cong n _ _ (λ i _. ap (λ (k : ℕ). get_or l k 0) (omega arith))))

-- one store into a made list
pub made_set : (n k : ℕ) (f g : ℕ → ℕ) (x : ℕ) → g k ≡ x → ((i : ℕ) → (i ≡ k → ⊥) → f i ≡ g i) → set (made n f) k x ≡ made n g
made_set n k f g x here other =
    let size : length (set (made n f) k x) ≡ n = length-set (made n f) k x ∙ made_length n f in
    ext_get_or 0 (set (made n f) k x) (made n g) (size ∙ sym (made_length n g))
    (λ i inside. let low : i < n = rw size at inside in go i low)
  where
    go : (i : ℕ) → i < n → get_or (set (made n f) k x) i 0 ≡ get_or (made n g) i 0
    go i low =
        by_cases (eqb i k)
        (λ e. let same : i ≡ k = eqb-true i k e in
        rw (same) (get_or-set_same (made n f) k x 0 (rw (made_length n f) (rw same at low)) ∙ sym here ∙ sym (made_at n g 0 k (rw same at low))))
        (λ e. get_or-set_other (made n f) k i x 0 (eqb-false i k e) ∙ made_at n f 0 i low ∙ other i (eqb-false i k e) ∙ sym (made_at n g 0 i low))

-- one turn of a loop that writes a list place by place: x is stored at i, and the places below i were the rule's already
pub wrote : (f : ℕ → ℕ) (before now : List ℕ) (i x : ℕ) → now ≡ made_over i f before → x ≡ f i → i < length before → set now i x ≡ made_over (i + 1) f before
wrote f before now i x e v h = rw (add-one i, e, v) (over_more i f before h)

-- what is written in two parts, the second behind the first
pub sets_append : (xs ys l : List ℕ) (i : ℕ) → sets l i (xs ++ ys) ≡ sets (sets l i xs) (i + length xs) ys
sets_append [] ys l i = rw (add-zero i) refl
sets_append (x ∷ xs) ys l i = rw (add-suc i (length xs), ← suc-add i (length xs)) (sets_append xs ys (set l i x) (suc i))
