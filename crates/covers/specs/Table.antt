-- The cover table as the code reads it: test 3, and the index by code.
use Rattle.std.specs.Prelude.{◌≡◌, true, List, [], ◌∷◌, ℕ, suc, ◌<◌, eqb}
use Rattle.theory.specs.Lists.{made}
use Rattle.theory.specs.Lowest.{Found, at, nowhere, lowest}
use Rattle.paper.specs.Covers.{code_of, entries, size_fits, entry_fits}
use Rattle.paper.specs.Refusals.{Refusal, accepted, refused, verdict, cover_test}
use Rattle.records.specs.Verdicts.{verdict_in}
use Rattle.records.specs.Verdicts.{Verdict}

-- one more than the entry, 0 for none
unfoldable pub one_more : Found → ℕ
one_more (at e) = suc e
one_more nowhere = 0

-- a table of a size that fits, each entry of which fits
pub record EntriesFit (covers : List ℕ) : Type 0 where
  pub sized : size_fits covers ≡ true
  pub fit : (e : ℕ) → e < entries covers → entry_fits covers e ≡ true

-- what a code finds among the table's first k entries
unfoldable pub found : List ℕ → ℕ → ℕ → ℕ
found covers k code = one_more (lowest k (λ e. eqb (code_of covers e) code))

-- an index of the table's first k entries by code
unfoldable pub index_of : List ℕ → ℕ → List ℕ
index_of covers k = made 256 (found covers k)

-- the verdict of test 3, and the index of a table that passes; refused, the array is as it was lent
pub record CoversRead (covers before : List ℕ) (r : Verdict) (index : List ℕ) : Type 0 where
  pub verdict_is : r ≡ verdict_in (verdict (cover_test covers ∷ []))
  pub indexed : verdict (cover_test covers ∷ []) ≡ accepted → index ≡ index_of covers (entries covers)
  pub kept : (why : Refusal) → verdict (cover_test covers ∷ []) ≡ refused why → index ≡ before
