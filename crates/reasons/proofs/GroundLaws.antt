-- The search for a cell's entry, and what its soil and cover can take as the paper's cell has it.
use mathlib.Core.Path.{◌≡◌, refl, sym, ap}
use mathlib.Core.Bool.{true}
use mathlib.Core.List.{List}
use Prim.Native.Nat.{ℕ, ◌≤◌, ◌<◌}
use native.Mathlib.Nat.{lt_of_lt_of_le}
use lib.Dec.{eqb}
use Rattle.theory.proofs.LowestLaws.{at_lowest, none_lowest}
use Rattle.paper.specs.Covers.{code_of, entries}
use Rattle.paper.specs.Setup.{Setup, cover_of, group_of, available_of, place_or, entry_of, is_open, cell}
use Rattle.records.proofs.PlaceLaws.{PassedTo}
use Rattle.reasons.specs.Grounds.{entry_for, ground_by}

module _ (covers : List ℕ) (code e : ℕ) (passed : PassedTo (λ k. eqb (code_of covers k) code) e) where
  pub entry_found : e < entries covers → eqb (code_of covers e) code ≡ true → e ≡ entry_for covers code
  unfolding entry_for place_or
  entry_found h is = ap (place_or (entries covers)) (sym (at_lowest (entries covers) (λ k. eqb (code_of covers k) code) e h is passed))

  pub entry_none : entries covers ≤ e → entries covers ≡ entry_for covers code
  unfolding entry_for place_or
  entry_none h =
      ap (place_or (entries covers)) (sym (none_lowest (entries covers) (λ k. eqb (code_of covers k) code) (λ j l. passed j (lt_of_lt_of_le l h))))

-- of a cell of a setup
pub ground_is : (s : Setup) (i : ℕ)
    → ground_by s.covers (cover_of s i) (group_of s i) (available_of s i) ≡ record { open? = (cell s i).open?; capacity = (cell s i).capacity; largest = (cell s i).largest }
unfolding ground_by entry_for cell is_open entry_of
ground_is s i = refl
