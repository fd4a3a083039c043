-- A loop over a text's words: what it has met and the words that are left are all of them.
use mathlib.Core.Bool.{Bool, cond, ◌&&◌}
use mathlib.Core.List.{List, [], ◌∷◌}
use mathlib.Core.Path.{◌≡◌, refl, sym, ap, ◌∙◌}
use Prim.Native.Nat.{ℕ, suc, ◌+◌, ◌*◌, ◌≤◌, ◌<◌}
use native.Mathlib.Nat.{zero-add}
use native.Mathlib.Numerals.{add-one}
use native.Mathlib.Omega.{arith}
use lib.Dec.{eqb}
use lib.IntN.{ℤ}
use lib.ListN.{length, drop, set, length-set, length-drop}
use lib.Seq.{sets}
use borrow.Author.Tests.{eq-eqb, ne_eqb, eqb-true}
use Rattle.theory.proofs.Cases.{by_cases}
use Rattle.words.specs.Words.{words}
use Rattle.words.specs.Numbers.{number}
use Rattle.words.specs.Spans.{part, NextWord}
use Rattle.words.proofs.WordLaws.{words_few}
use Rattle.grids.specs.Headers.{whole_of}
use Rattle.grids.specs.Cells.{wholes, cell_fits, passing, passing_with}

-- the next word and those after it, or none
pub record Ahead (text : List ℕ) (left : List (List ℕ)) (start end : ℕ) : Type 0 where
  pub found : start < end → left ≡ part text start end ∷ words (drop end text)
  pub none : end ≤ start → left ≡ []
  pub inside : start < end → end ≤ length text

ahead : (text : List ℕ) (from start end : ℕ) → NextWord text from start end → Ahead text (words (drop from text)) start end
ahead text from start end next = record { found = next.found; none = next.none; inside = next.inside }

pub wholes_length : (ws : List (List ℕ)) → length (wholes ws) ≡ length ws
unfolding wholes
wholes_length [] = refl
wholes_length (w ∷ ws) = ap suc (wholes_length ws)

-- counting: the cells before the first that is refused, and all
pub record Counted (no_data : ℤ) (text : List ℕ) (from pass count start end : ℕ) : Type 0 where
  pub left : List (List ℕ)
  pub onward : Ahead text left start end
  pub counted : length (wholes (words (drop from text))) ≡ count + length (wholes left)
  pub passes : passing (cell_fits no_data) (wholes (words (drop from text))) ≡ cond (eqb pass count) (count + passing (cell_fits no_data) (wholes left)) pass
  pub few : pass ≤ count

module _ (no_data : ℤ) (text : List ℕ) (from : ℕ) where
  abbrev all : List ℤ
  all = wholes (words (drop from text))

  pub counted_first : (start end : ℕ) → NextWord text from start end → Counted no_data text from 0 0 start end
  counted_first start end next =
      record {
        left = words (drop from text);
        onward = ahead text from start end next;
        counted = sym (zero-add (length all));
        passes = sym (zero-add (passing (cell_fits no_data) all));
        few = omega arith;
      }

  -- a text has fewer words than bytes, or one
  pub counted_most : (pass count start end : ℕ) → Counted no_data text from pass count start end → 2 * count ≤ length text + 1
  counted_most pass count start end s =
      omega (arith, s.counted, wholes_length (words (drop from text)), words_few (drop from text), length-drop from text)

  with_few : (pass count : ℕ) (fits : Bool) → pass ≤ count → passing_with pass count fits ≤ count + 1
  unfolding passing_with
  with_few pass count fits few = by_cases (eqb pass count && fits) (λ e. rw e (omega arith)) (λ e. rw e (omega arith))

  one_more_lem :
      (pass count : ℕ) (z : ℤ) (zs : List ℤ) → pass ≤ count
      → cond (eqb pass count) (count + passing (cell_fits no_data) (z ∷ zs)) pass
      ≡ cond (eqb (passing_with pass count (cell_fits no_data z)) (suc count)) (suc count + passing (cell_fits no_data) zs) (passing_with pass count (cell_fits no_data z))
  unfolding passing passing_with
  one_more_lem pass count z zs few =
      by_cases (eqb pass count)
      (λ e.
      let same : pass ≡ count = eqb-true pass count e in
      by_cases (cell_fits no_data z) (λ f. rw (e, f, eq-eqb (suc pass) (suc count) (ap suc same)) (omega arith))
      (λ f. rw (e, f, ne_eqb pass (suc count) (λ w. omega arith)) (omega (arith, same))))
      (λ e. rw (e, ne_eqb pass (suc count) (λ w. omega arith)) refl)

  module _ (pass count start end : ℕ) (s : Counted no_data text from pass count start end) where
    pub counted_next :
        (fits : Bool) (pass' start' end' : ℕ) → start < end → fits ≡ cell_fits no_data (whole_of (number (part text start end)))
        → pass' ≡ passing_with pass count fits → NextWord text end start' end'
        → Counted no_data text from pass' (count + 1) start' end'
    unfolding wholes
    counted_next fits pass' start' end' more ef ep next =
        let z = whole_of (number (part text start end)) in
        let zs = wholes (words (drop end text)) in
        let here : s.left ≡ part text start end ∷ words (drop end text) = s.onward.found more in
        let met : wholes s.left ≡ z ∷ zs = ap wholes here in
        let same : pass' ≡ passing_with pass count (cell_fits no_data z) = ep ∙ ap (passing_with pass count) ef in
        record {
          left = words (drop end text);
          onward = ahead text end start' end' next;
          counted = s.counted ∙ rw met (omega arith);
          passes = s.passes ∙ rw (met, same, add-one count) (one_more_lem pass count z zs s.few);
          few = rw same (with_few pass count (cell_fits no_data z) s.few);
        }

    pub counted_all : end ≤ start → (pass ≡ passing (cell_fits no_data) all) × (count ≡ length all)
    unfolding wholes passing
    counted_all none =
        let nothing : wholes s.left ≡ [] = ap wholes (s.onward.none none) in (
          sym (s.passes ∙ rw nothing (by_cases (eqb pass count) (λ e. rw e (omega (arith, eqb-true pass count e))) (λ e. rw e refl))),
          sym (s.counted ∙ rw nothing (omega arith)),
        )

-- filling: what is stored and what is left
pub record Filled (text : List ℕ) (from : ℕ) (before now : List ℤ) (i start end : ℕ) : Type 0 where
  pub left : List (List ℕ)
  pub onward : Ahead text left start end
  pub stored : sets before 0 (wholes (words (drop from text))) ≡ sets now i (wholes left)
  pub room : i + length (wholes left) ≤ length before
  pub sized : length now ≡ length before

module _ (text : List ℕ) (from : ℕ) (before : List ℤ) where
  module _ (now : List ℤ) (i start end : ℕ) (s : Filled text from before now i start end) where
    module _ (more : start < end) where
      met : wholes s.left ≡ whole_of (number (part text start end)) ∷ wholes (words (drop end text))
      unfolding wholes
      met = ap wholes (s.onward.found more)

      pub filled_room : i < length now
      filled_room = omega (arith, s.room, s.sized, ap length met)

      pub filled_next :
          (z : ℤ) (start' end' : ℕ) → z ≡ whole_of (number (part text start end)) → NextWord text end start' end'
          → Filled text from before (set now i z) (i + 1) start' end'
      filled_next z start' end' e next =
          record {
            left = words (drop end text);
            onward = ahead text end start' end' next;
            stored = s.stored ∙ rw (met, e, add-one i) refl;
            room = omega (arith, s.room, ap length met);
            sized = length-set now i z ∙ s.sized;
          }

    pub filled_all : end ≤ start → now ≡ sets before 0 (wholes (words (drop from text)))
    unfolding wholes
    filled_all none = sym (s.stored ∙ ap (λ (ws : List (List ℕ)). sets now i (wholes ws)) (s.onward.none none))
