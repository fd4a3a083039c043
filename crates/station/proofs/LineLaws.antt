-- A line by its codes: each number comes back from its own, and the code's tests, one after another, decide which estimate the line asks for.
use mathlib.Core.Path.{◌≡◌, refl, sym, ap, ◌∙◌}
use mathlib.Core.Bool.{Bool, true, false, cond, ◌&&◌}
use mathlib.Core.List.{List, [], ◌∷◌}
use Prim.Native.Nat.{ℕ, suc, ◌-◌, ◌≤◌, ◌<◌}
use native.Mathlib.Omega.{arith}
use lib.Dec.{eqb}
use lib.Ieee.{Float, neg}
use lib.IntN.{ℤ, pos}
use lib.ListN.{length, get_or}
use lib.Seq.{get_or-take, length-sets}
use borrow.Author.Tests.{lt-ltb, le-ltb, ne_eqb}
use Rattle.theory.proofs.Cases.{below_or_not}
use Rattle.paper.specs.Radiation.{whole, turc, jensen_haise}
use Rattle.lines.specs.Reading.{Reading, most_numbers, negatives, given, codes, signed, form_in, Read}
use Rattle.lines.specs.declared.reading.BadForm.{BadForm}
use Rattle.std.specs.Prelude.{Result, Ok, Err}
use Rattle.lines.proofs.ReadingLaws.{front, codes_back}
use Rattle.station.specs.Readings.{Line, estimate, malformed, reading_of, celsius_of, turc_line, jensen_haise_line, is_kind, line_of, line_in}

-- a number's reading, below zero and not
pub reading_below : (c : ℕ) → negatives < c → neg (whole (c - negatives)) ≡ reading_of (signed c)
unfolding reading_of signed
reading_below c h = rw (lt-ltb negatives c h) (ap (λ (n : ℕ). neg (whole n)) (omega arith))

pub reading_plain : (c : ℕ) → c ≤ negatives → whole c ≡ reading_of (signed c)
unfolding reading_of signed
reading_plain c h = rw (le-ltb negatives c h) refl

kind_is : (kind c : ℕ) → kind ≤ negatives → is_kind kind (signed c) ≡ eqb c kind
unfolding is_kind signed
kind_is kind c h =
    below_or_not negatives c (λ more. rw (lt-ltb negatives c more) (sym (ne_eqb c kind (λ e. omega arith))))
    (λ less. rw (le-ltb negatives c less) refl)

-- the codes of numbers, at the front of a list
abbrev Coded : List ℤ → List ℕ → Type 0
Coded zs ns = (k : ℕ) → k < length zs → signed (get_or ns k 0) ≡ get_or zs k (pos 0)

-- the two tests, of how many numbers there are and of the first
module _ (ns : List ℕ) where
  abbrev number : ℕ → ℤ
  number k = signed (get_or ns k 0)

  abbrev pub tested : ℕ → Line
  tested count =
      cond (eqb count 4 && eqb (get_or ns 0 0) 1) (turc_line (number 1) (number 2) (number 3))
      (cond (eqb count 3 && eqb (get_or ns 0 0) 2) (jensen_haise_line (number 1) (number 2)) malformed)

  by_tests : (zs : List ℤ) → Coded zs ns → line_of zs ≡ tested (length zs)
  unfolding line_of
  by_tests [] at = refl
  by_tests (kind ∷ []) at = refl
  by_tests (kind ∷ t ∷ []) at = refl
  by_tests (kind ∷ t ∷ r ∷ []) at =
      rw (← at 0 (omega arith), ← at 1 (omega arith), ← at 2 (omega arith), kind_is 2 (get_or ns 0 0) (omega arith)) refl
  by_tests (kind ∷ t ∷ r ∷ h ∷ []) at =
      rw (← at 0 (omega arith), ← at 1 (omega arith), ← at 2 (omega arith), ← at 3 (omega arith), kind_is 1 (get_or ns 0 0) (omega arith))
      refl
  by_tests (kind ∷ t ∷ r ∷ h ∷ more ∷ zs) at =
      let count = suc (suc (suc (suc (suc (length zs))))) in
      rw (ne_eqb count 4 (λ e. omega arith), ne_eqb count 3 (λ e. omega arith)) refl

-- a line out of its parts
pub turc_line_lem :
    (t r h : ℤ) {mean radiation humidity : Float} → mean ≡ celsius_of t → radiation ≡ reading_of r → humidity ≡ reading_of h
    → estimate (record { mean = mean; estimate = turc radiation humidity }) ≡ turc_line t r h
turc_line_lem t r h a b c = λ k. estimate (record { mean = a k; estimate = turc (b k) (c k) })

pub jensen_haise_line_lem :
    (t r : ℤ) {mean radiation : Float} → mean ≡ celsius_of t → radiation ≡ reading_of r
    → estimate (record { mean = mean; estimate = jensen_haise radiation }) ≡ jensen_haise_line t r
jensen_haise_line_lem t r a b = λ k. estimate (record { mean = a k; estimate = jensen_haise (b k) })

-- by the form of what was read
form_whole : (all : Reading) (count : ℕ) → form_in all.whole (length all.numbers) ≡ Ok count → (all.whole ≡ true) × (length all.numbers ≡ count)
unfolding form_in
form_whole all count e = go all.whole e
  where
    go : (whole : Bool) → form_in whole (length all.numbers) ≡ Ok count → (whole ≡ true) × (length all.numbers ≡ count)
    go true e = (refl, cc)
    go false e = absurd (let z : ◌≡◌ {A = ℕ} 0 1 = cc in omega arith)

form_broken : (all : Reading) (why : BadForm) → form_in all.whole (length all.numbers) ≡ Err why → all.whole ≡ false
unfolding form_in
form_broken all why e = go all.whole e
  where
    go : (whole : Bool) → form_in whole (length all.numbers) ≡ Err why → whole ≡ false
    go true e = absurd (let z : ◌≡◌ {A = ℕ} 0 1 = cc in omega arith)
    go false e = refl

-- what a read of a line says of it
module _ (line before ns : List ℕ) (form : Result ℕ BadForm) (count : ℕ) (long : length before ≡ most_numbers) (read : Read (given line) before ns form) where
  pub read_length : length ns ≡ most_numbers
  read_length = ap length read.numbers ∙ length-sets before 0 (codes (given line).numbers) ∙ long

  pub line_broken : (why : BadForm) → form ≡ Err why → malformed ≡ line_in (given line)
  unfolding line_in
  line_broken why e = rw (form_broken (given line) why (sym read.form ∙ e)) refl

  pub line_whole : form ≡ Ok count → tested ns count ≡ line_in (given line)
  unfolding line_in
  line_whole e =
      let zs = (given line).numbers in
      let is = form_whole (given line) count (sym read.form ∙ e) in
      let coded : Coded zs ns = λ k h.
      ap signed (sym (get_or-take (length zs) ns k 0 h) ∙ ap (λ (l : List ℕ). get_or l k 0) (front (given line) before ns form long read))
      ∙ codes_back line k in
      rw (is.0, ← is.1) (sym (by_tests ns zs coded))
