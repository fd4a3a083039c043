-- The cover table's order: an entry's test looks at the entry before it, and in a table that rises throughout an earlier entry has a lower
-- code, so that no two entries share one and each store into the index is the only one at its code.
use mathlib.Core.Path.{◌≡◌, refl, sym, ap, ◌∙◌, subst}
use mathlib.Core.Bool.{true, false, not}
use mathlib.Core.List.{List, [], ◌∷◌}
use Prim.Native.Nat.{ℕ, zero, suc, ◌-◌, ◌≤◌, ◌<◌}
use native.Mathlib.Nat.{not-suc-le-zero}
use native.Mathlib.Omega.{arith}
use lib.Dec.{ltb, eqb}
use lib.ListN.{set, replicate}
use borrow.Author.Tests.{ltb-true, leb-true, eqb-true, eq-eqb, ne_eqb, not-false}
use Rattle.theory.specs.Lists.{made}
use Rattle.theory.specs.Lowest.{Found, at, nowhere, or_at, lowest}
use Rattle.theory.proofs.Cases.{by_cases, below_or_not, and_left, and_right, cond_true, cond_false}
use Rattle.theory.proofs.ListLaws.{made_set}
use Rattle.theory.proofs.LowestLaws.{lowest_none, none_lowest, at_lowest}
use Rattle.paper.specs.Covers.{code_of, entries, size_fits, entry_fits, rises}
use Rattle.paper.specs.Refusals.{Refusal, accepted, refused, verdict, cover_places, cover_fits, cover_table, cover_test}
use Rattle.paper.proofs.RefusalLaws.{pass_many, fail_many}
use Rattle.records.specs.Verdicts.{refusal_in, verdict_in}
use Rattle.std.specs.Prelude.{Ok, Err}
use Rattle.covers.specs.Table.{one_more, EntriesFit, found, index_of, CoversRead}

pub rises_first : (covers : List ℕ) (e : ℕ) → e ≡ 0 → true ≡ rises covers e
unfolding rises
rises_first covers e h = rw h refl

pub rises_later : (covers : List ℕ) (e : ℕ) → 0 < e → ltb (code_of covers (e - 1)) (code_of covers e) ≡ rises covers e
unfolding rises
rises_later covers zero h = absurd (not-suc-le-zero h)
rises_later covers (suc e) h = let one : suc e - 1 ≡ e = omega arith in rw one refl

-- the verdict of test 3 by its size and its entries
module _ (covers : List ℕ) where
  search_entries : size_fits covers ≡ true
      → lowest (cover_places covers) (λ e. not (cover_fits covers e)) ≡ lowest (entries covers) (λ e. not (entry_fits covers e))
  unfolding cover_places cover_fits
  search_entries size = rw (cond_true (size_fits covers) size, size) refl

  pub size_bad : size_fits covers ≡ false → verdict (cover_test covers ∷ []) ≡ refused (cover_table 0)
  unfolding cover_places cover_fits
  size_bad size =
      fail_many [] (cover_test covers) 0
      (at_lowest _ _ 0 (rw (cond_false (size_fits covers) size) (omega arith)) (rw size refl) (λ j h. absurd (omega arith)))

  pub entry_bad : size_fits covers ≡ true → (e : ℕ) → lowest (entries covers) (λ k. not (entry_fits covers k)) ≡ at e
      → verdict (cover_test covers ∷ []) ≡ refused (cover_table e)
  entry_bad size e bad = fail_many [] (cover_test covers) e (search_entries size ∙ bad)

  module _ (size : size_fits covers ≡ true) (none : lowest (entries covers) (λ k. not (entry_fits covers k)) ≡ nowhere) where
    pub entries_fit : EntriesFit covers
    entries_fit = record { sized = size; fit = λ e h. not-false _ (lowest_none _ _ none e h) }

    pub table_fits : verdict (cover_test covers ∷ []) ≡ accepted
    unfolding verdict
    table_fits = pass_many [] (cover_test covers) (search_entries size ∙ none)

  -- a table that test 3 accepts
  pub accepted_table : verdict (cover_test covers ∷ []) ≡ accepted → EntriesFit covers
  accepted_table v =
      by_cases (size_fits covers)
      (λ size. go size (lowest (entries covers) (λ k. not (entry_fits covers k))) refl)
      (λ size. absurd (clash (cover_table 0) (sym v ∙ size_bad size)))
    where
      clash : (why : Refusal) → accepted ≡ refused why → ⊥
      clash why e = let z : ◌≡◌ {A = ℕ} 0 1 = cc in omega arith

      go : size_fits covers ≡ true → (f : Found) → lowest (entries covers) (λ k. not (entry_fits covers k)) ≡ f → EntriesFit covers
      go size (at e) bad = absurd (clash (cover_table e) (sym v ∙ entry_bad size e bad))
      go size nowhere none = entries_fit size none

  -- refused, the array is as it was lent; accepted, it has the index
  pub refused_table : (before : List ℕ) (why : Refusal) → verdict (cover_test covers ∷ []) ≡ refused why
      → CoversRead covers before (Err (refusal_in why)) before
  refused_table before why v =
      record {
        verdict_is = sym (ap verdict_in v);
        indexed = λ a. absurd (let z : ◌≡◌ {A = ℕ} 0 1 = cc in omega arith);
        kept = λ w q. refl;
      }

  pub read_table : (before index : List ℕ) → verdict (cover_test covers ∷ []) ≡ accepted → index ≡ index_of covers (entries covers)
      → CoversRead covers before (Ok tt) index
  read_table before index v is =
      record {
        verdict_is = sym (ap verdict_in v);
        indexed = λ a. is;
        kept = λ w q. absurd (let z : ◌≡◌ {A = ℕ} 0 1 = cc in omega arith);
      }

not_here : (f : Found) (k : ℕ) → or_at f k false ≡ f
unfolding or_at
not_here (at i) k = refl
not_here nowhere k = refl

module _ (covers : List ℕ) (fit : EntriesFit covers) where
  above : (e : ℕ) → suc e < entries covers → code_of covers e < code_of covers (suc e)
  unfolding entry_fits rises
  above e h =
      let fits : entry_fits covers (suc e) ≡ true = fit.fit (suc e) h in
      ltb-true _ _ (search (and_left, and_right) depth 9)

  rising : (j k : ℕ) → j < k → k < entries covers → code_of covers j < code_of covers k
  rising j zero l h = absurd (not-suc-le-zero l)
  rising j (suc k) l h =
      below_or_not j k
      (λ less. let step : code_of covers k < code_of covers (suc k) = above k h in
      let before : code_of covers j < code_of covers k = rising j k less (omega arith) in omega arith)
      (λ same. let eq : j ≡ k = omega arith in subst (λ (i : ℕ). code_of covers i < code_of covers (suc k)) (sym eq) (above k h))

  pub count_limit : entries covers ≤ 64
  unfolding size_fits
  count_limit = let fits : size_fits covers ≡ true = fit.sized in leb-true _ _ (search (and_left, and_right))

  pub code_limit : (e : ℕ) → e < entries covers → code_of covers e < 256
  unfolding entry_fits
  code_limit e h =
      let fits : entry_fits covers e ≡ true = fit.fit e h in
      let most : code_of covers e ≤ 255 = leb-true _ _ (search (and_left, and_right) depth 9) in
      omega arith

  -- no entry is found at first, and one entry more
  pub index_none : (index : List ℕ) → index ≡ replicate 256 0 → index ≡ index_of covers 0
  unfolding index_of found lowest one_more made
  index_none index e = rw e refl

  pub index_more : (k : ℕ) → k < entries covers → set (index_of covers k) (code_of covers k) (suc k) ≡ index_of covers (suc k)
  unfolding index_of found lowest or_at one_more
  index_more k h =
      made_set 256 (code_of covers k) (found covers k) (found covers (suc k)) (suc k)
      (here (code_of covers k) (eq-eqb (code_of covers k) (code_of covers k) refl))
      (λ code apart. other code (ne_eqb (code_of covers k) code (λ p. apart (sym p))))
    where
      here : (code : ℕ) → eqb (code_of covers k) code ≡ true → one_more (or_at (lowest k (λ e. eqb (code_of covers e) code)) k (eqb (code_of covers k) code)) ≡ suc k
      here code e =
          let eq : code_of covers k ≡ code = eqb-true _ _ e in
          let none : lowest k (λ j. eqb (code_of covers j) code) ≡ nowhere
          = none_lowest k _ (λ j less. ne_eqb (code_of covers j) code
          (λ (p : code_of covers j ≡ code). let lower : code_of covers j < code_of covers k = rising j k less h in omega arith)) in
          rw (e, none) refl

      other : (code : ℕ) → eqb (code_of covers k) code ≡ false
          → one_more (lowest k (λ e. eqb (code_of covers e) code)) ≡ one_more (or_at (lowest k (λ e. eqb (code_of covers e) code)) k (eqb (code_of covers k) code))
      other code e = rw (e, not_here) refl
