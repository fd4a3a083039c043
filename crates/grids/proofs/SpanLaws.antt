-- A text's words by their number: where the words from a place on are those after the first k, the next from there is the k-th.
use mathlib.Core.List.{List, [], ◌∷◌}
use mathlib.Core.Path.{◌≡◌, refl, sym, ap, ◌∙◌}
use Prim.Native.Nat.{ℕ, suc, ◌+◌, ◌-◌, ◌≤◌, ◌<◌}
use native.Mathlib.Nat.{add-zero}
use native.Mathlib.Numerals.{add-one}
use native.Mathlib.Omega.{arith}
use lib.ListN.{length, drop}
use lib.Seq.{get_or-drop, drop-drop}
use Rattle.theory.proofs.Cases.{below_or_not}
use Rattle.words.specs.Words.{words}
use Rattle.words.specs.Spans.{part, NextWord}
use Rattle.words.proofs.WordLaws.{none_after, end_inside}
use Rattle.grids.specs.Headers.{word_at}
use Rattle.grids.specs.Spans.{WordAt}

module _ (text : List ℕ) (k from start end : ℕ) (here : words (drop from text) ≡ drop k (words text)) (inside : from ≤ length text) (next : NextWord text from start end) where
  at_front : word_at (drop k (words text)) 0 ≡ word_at (words text) k
  at_front = get_or-drop k (words text) 0 [] ∙ ap (word_at (words text)) (add-zero k)

  past_front : drop 1 (drop k (words text)) ≡ drop (suc k) (words text)
  past_front = drop-drop 1 k (words text) ∙ ap (λ (n : ℕ). drop n (words text)) (add-one k)

  found : start < end → drop k (words text) ≡ part text start end ∷ words (drop end text)
  found h = sym here ∙ next.found h

  nothing : end ≤ start → drop k (words text) ≡ []
  nothing h = sym here ∙ next.none h

  empty : end ≤ start → part text start end ≡ []
  empty h = let none : end - start ≡ 0 = omega (arith, h) in rw none refl

  pub word_next : WordAt text k start end
  word_next =
      record {
        word =
            below_or_not start end (λ h. ap (λ (ws : List (List ℕ)). word_at ws 0) (sym (found h)) ∙ at_front)
            (λ h. empty h ∙ ap (λ (ws : List (List ℕ)). word_at ws 0) (sym (nothing h)) ∙ at_front);
        after =
            below_or_not start end (λ h. ap (drop 1) (sym (found h)) ∙ past_front)
            (λ h. none_after text from start end next h ∙ ap (drop 1) (sym (nothing h)) ∙ past_front);
        ordered = next.ordered;
        inside = end_inside text from start end next inside;
      }

pub word_first : (text : List ℕ) (start end : ℕ) → NextWord text 0 start end → WordAt text 0 start end
word_first text start end next = word_next text 0 0 start end refl (omega arith) next

pub word_then : (text : List ℕ) (k start end start' end' : ℕ) → WordAt text k start end → NextWord text end start' end' → WordAt text (k + 1) start' end'
word_then text k start end start' end' w next = rw (add-one k) (word_next text (suc k) end start' end' w.after w.inside next)
