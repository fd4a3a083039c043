-- The slots are the paper's cells. By the index a code finds its entry or none, so that a cell has a slot exactly where test 4 passes it, and
-- from the slot come back the entry and the group.
use mathlib.Core.Path.{◌≡◌, refl, sym, ap, ◌∙◌}
use mathlib.Core.Bool.{Bool, true, false, cond, not, ◌&&◌, false≢true}
use mathlib.Core.List.{List}
use Prim.Native.Nat.{ℕ, suc, ◌+◌, ◌*◌, ◌/◌, ◌-◌, ◌≤◌, ◌<◌, zero-le}
use native.Mathlib.Nat.{le_trans}
use native.Mathlib.Omega.{arith}
use lib.Dec.{eqb, leb}
use lib.ListN.{length, get_or, get_or-eq_default}
use borrow.Author.Tests.{eq-eqb, ne_eqb, eqb-true, eqb-false, leb-true}
use Rattle.theory.proofs.Cases.{by_cases, below_or_not, cond_true, cond_false, and_left, and_right}
use Rattle.theory.proofs.ListLaws.{made_length, made_at}
use Rattle.theory.proofs.LowestLaws.{lowest_at, none_lowest}
use Rattle.theory.specs.Lowest.{Found, at, nowhere, is_found, lowest, some}
use Rattle.paper.specs.Limits.{within, most_available_water}
use Rattle.paper.specs.Covers.{code_of, entries}
use Rattle.paper.specs.Setup.{Setup, cover_of, group_of, available_of, entry_of, place_or, cell_fits}
use Rattle.covers.specs.Table.{one_more, EntriesFit, found, index_of}
use Rattle.covers.proofs.TableLaws.{code_limit, count_limit}
use Rattle.survey.specs.Charts.{slot_of}
use Rattle.survey.specs.Cells.{slot_by, slot_at, IndexFits}

pub group_in : (group available : ℕ) → (within 1 4 group && leb available most_available_water) ≡ true → (1 ≤ group) × (group ≤ 4)
group_in group available b = (leb-true _ _ (search (and_left, and_right)), leb-true _ _ (search (and_left, and_right)))

module _ (index : List ℕ) (code group available : ℕ) where
  pub slot_none : get_or index code 0 ≡ 0 → 256 ≡ slot_by index code group available
  unfolding slot_by
  slot_none e = sym (cond_true (eqb (get_or index code 0) 0) (eq-eqb _ _ e) _ _)

  pub slot_past : IndexFits index → 256 ≤ code → 256 ≡ slot_by index code group available
  slot_past fits h = slot_none (get_or-eq_default index 0 {n = code} (rw fits.sized h))

  pub slot_bad : (within 1 4 group && leb available most_available_water) ≡ false → 256 ≡ slot_by index code group available
  unfolding slot_by
  slot_bad e =
      by_cases (eqb (get_or index code 0) 0) (λ z. sym (cond_true (eqb (get_or index code 0) 0) z _ _))
      (λ z. sym (cond_false (eqb (get_or index code 0) 0) z _ _ ∙ cond_false (within 1 4 group && leb available most_available_water) e _ _))

  pub slot_good : (get_or index code 0 ≡ 0 → ⊥) → (within 1 4 group && leb available most_available_water) ≡ true
      → 4 * (get_or index code 0 - 1) + (group - 1) ≡ slot_by index code group available
  unfolding slot_by
  slot_good some e =
      sym (cond_false (eqb (get_or index code 0) 0) (ne_eqb _ _ some) _ _
      ∙ cond_true (within 1 4 group && leb available most_available_water) e _ _)

  -- a slot that is one has an entry of the index, and one of the four groups
  pub slot_below : (slot entries : ℕ) → slot ≡ slot_by index code group available → (slot ≡ 256 → ⊥) → get_or index code 0 ≤ entries → slot < 4 * entries
  slot_below slot entries e some held =
      by_cases (eqb (get_or index code 0) 0) (λ z. absurd (some (e ∙ sym (slot_none (eqb-true _ _ z)))))
      (λ z. by_cases (within 1 4 group && leb available most_available_water)
      (λ b.
      let present : get_or index code 0 ≡ 0 → ⊥ = eqb-false _ _ z in
      let group_most : group ≤ 4 = leb-true _ _ (search (and_left, and_right)) in
      omega (arith, e, slot_good present b))
      (λ b. absurd (some (e ∙ sym (slot_bad b)))))

-- the whole entry of a slot stands in the table
pub whole_entry : (covers : List ℕ) (slot : ℕ) → slot < 4 * entries covers → 16 * (slot / 4) + 16 ≤ length covers
unfolding entries
whole_entry covers slot h = omega arith

-- what the search finds below k is at most k when counted from 1
more_most : (k : ℕ) (test : ℕ → Bool) (f : Found) → lowest k test ≡ f → one_more f ≤ k
unfolding one_more
more_most k test (at e) found = (lowest_at k test found).0
more_most k test nowhere found = zero-le

module _ (covers index : List ℕ) (fit : EntriesFit covers) (known : index ≡ index_of covers (entries covers)) where
  sized : length index ≡ 256
  unfolding index_of
  sized = ap length known ∙ made_length 256 _

  -- also past 255, where no entry has its code
  index_at : (code : ℕ) → get_or index code 0 ≡ one_more (lowest (entries covers) (λ e. eqb (code_of covers e) code))
  unfolding one_more index_of found
  index_at code =
      below_or_not code 256 (λ h. rw known (made_at 256 _ 0 code h))
      (λ past. rw (none_lowest (entries covers) (λ e. eqb (code_of covers e) code)
      (λ e h. ne_eqb _ _ (λ (same : code_of covers e ≡ code). let low : code_of covers e < 256 = code_limit covers fit e h in omega arith)))
      (get_or-eq_default index 0 {n = code} (rw sized past)))

  pub index_entered : (code : ℕ) → get_or index code 0 ≤ entries covers
  index_entered code = rw (index_at code) (more_most (entries covers) _ _ refl)

  pub index_fits : IndexFits index
  index_fits =
      record {
        sized = sized;
        few = λ code. le_trans (index_entered code) (count_limit covers fit);
      }

  -- the slot that is found where the search finds f
  slot_by_lem : Found → ℕ → ℕ → ℕ
  slot_by_lem f group available = cond (eqb (one_more f) 0) 256 (cond (within 1 4 group && leb available most_available_water) (4 * (one_more f - 1) + (group - 1)) 256)

  slot_found : (f : Found) (group available : ℕ) → one_more f ≤ 64
      → eqb (slot_by_lem f group available) 256 ≡ not (is_found f && within 1 4 group && leb available most_available_water)
  unfolding slot_by_lem one_more is_found
  slot_found nowhere group available h = refl
  slot_found (at e) group available h =
      rw (ne_eqb (suc e) 0 (λ (z : suc e ≡ 0). omega arith))
      (by_cases (within 1 4 group && leb available most_available_water)
      (λ b.
      let group_most : group ≤ 4 = leb-true _ _ (search (and_left, and_right)) in
      rw b (ne_eqb (4 * (suc e - 1) + (group - 1)) 256 (λ (z : 4 * (suc e - 1) + (group - 1) ≡ 256). omega arith)))
      (λ b. rw b refl))

module _ (s : Setup) (index : List ℕ) (fit : EntriesFit s.covers) (known : index ≡ index_of s.covers (entries s.covers)) where
  slot_at_lem : (i : ℕ)
      → slot_at index s.cover s.group s.available i
      ≡ slot_by_lem s.covers index fit known (lowest (entries s.covers) (λ e. eqb (code_of s.covers e) (cover_of s i))) (group_of s i) (available_of s i)
  unfolding slot_by slot_by_lem
  slot_at_lem i = rw (index_at s.covers index fit known (cover_of s i)) refl

  -- a cell has no slot exactly where test 4 fails it
  pub slot_test : (i : ℕ) → eqb (slot_at index s.cover s.group s.available i) 256 ≡ not (cell_fits s i)
  unfolding cell_fits some
  slot_test i =
      rw (slot_at_lem i)
      (slot_found s.covers index fit known _ (group_of s i) (available_of s i)
      (le_trans (more_most (entries s.covers) _ _ refl) (count_limit s.covers fit)))

  -- and where it passes, the slot is that of its entry and group
  pub slot_is : (i : ℕ) → cell_fits s i ≡ true → slot_at index s.cover s.group s.available i ≡ slot_of s i
  unfolding slot_by_lem cell_fits some entry_of place_or is_found one_more
  slot_is i fits = slot_at_lem i ∙ go (lowest (entries s.covers) (λ e. eqb (code_of s.covers e) (cover_of s i))) fits
    where
      go : (f : Found) → (is_found f && within 1 4 (group_of s i) && leb (available_of s i) most_available_water) ≡ true
          → slot_by_lem s.covers index fit known f (group_of s i) (available_of s i) ≡ 4 * place_or (entries s.covers) f + (group_of s i - 1)
      go nowhere b = absurd (false≢true b)
      go (at e) b =
          rw (ne_eqb (suc e) 0 (λ (z : suc e ≡ 0). omega arith), b)
          (ap (λ (k : ℕ). 4 * k + (group_of s i - 1)) (let one : suc e - 1 ≡ e = omega arith in one))
