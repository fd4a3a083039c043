-- What an accepted verdict says: the header is within its limits, which are given here one by one, every cell passes, there are as many as the grid has, and
-- there is room for them.
use mathlib.Core.Bool.{Bool, true, not, ◌&&◌}
use mathlib.Core.List.{List, [], ◌∷◌}
use mathlib.Core.Path.{◌≡◌, refl}
use Prim.Native.Nat.{ℕ, zero, suc, ◌*◌, ◌≤◌}
use native.Mathlib.Nat.{not-suc-le-zero, le_of_suc-le-suc}
use native.Mathlib.Omega.{arith}
use lib.Dec.{eqb, leb, ltb}
use lib.IntN.{ℤ}
use lib.ListN.{length, get_or}
use borrow.Author.Tests.{ltb-false, leb-true, eqb-true}
use Rattle.theory.proofs.Cases.{by_cases, and_left, and_right}
use Rattle.paper.specs.Limits.{most_cells}
use Rattle.paper.specs.Setup.{cells_of, grid_fits}
use Rattle.grids.specs.Measures.{is_measure}
use Rattle.grids.specs.Headers.{Header, whole_fits, header_fits}
use Rattle.grids.specs.Cells.{cell_fits, is_same, passing}
use Rattle.grids.specs.Judging.{accepted, refused, judged}

pub record Fit (h : Header) (passing count : ℕ) (enough : Bool) : Type 0 where
  pub header : header_fits h ≡ true
  pub passed : count ≤ passing
  pub counted : count ≡ cells_of h.grid
  pub room : enough ≡ true

never : (place : ℕ) → refused place ≡ accepted → ⊥
never place e = let z : ◌≡◌ {A = ℕ} 0 1 = cc in omega arith

module _ (h : Header) (passing count : ℕ) (enough : Bool) where
  pub fit : judged h passing count enough ≡ accepted → Fit h passing count enough
  unfolding judged
  fit agreed =
      by_cases (header_fits h)
      (λ a.
      by_cases (ltb passing count) (λ b. absurd (never passing (rw (a, b) at agreed)))
      (λ b.
      by_cases (eqb count (cells_of h.grid) && enough)
      (λ c.
      record {
        header = a;
        passed = ltb-false passing count b;
        counted = eqb-true count (cells_of h.grid) (and_left (eqb count (cells_of h.grid)) enough c);
        room = and_right (eqb count (cells_of h.grid)) enough c;
      })
      (λ c. absurd (never 0 (rw (a, b, c) at agreed)))))
      (λ a. absurd (never 0 (rw a at agreed)))

  -- and so it is wherever there is room
  pub with_room : judged h passing count enough ≡ accepted → judged h passing count true ≡ accepted
  with_room agreed = rw (fit agreed).room at agreed

  -- whether there is room has a say only of as many cells as the grid has
  pub same_room : (other : Bool) → (header_fits h ≡ true → count ≡ cells_of h.grid → enough ≡ other) → judged h passing count enough ≡ judged h passing count other
  unfolding judged
  same_room other same =
      by_cases (header_fits h)
      (λ a.
      by_cases (eqb count (cells_of h.grid)) (λ b. rw (same a (eqb-true count (cells_of h.grid) b)) refl) (λ b. rw b refl))
      (λ a. rw a refl)

-- ---- the tests of several, which `◌&&◌` joins from the first on
unfoldable pub all_of : Bool → List Bool → Bool
all_of first [] = first
all_of first (b ∷ bs) = all_of (first && b) bs

first_of : (first : Bool) (bs : List Bool) → all_of first bs ≡ true → first ≡ true
unfolding all_of
first_of first [] e = e
first_of first (b ∷ bs) e = and_left first b (first_of (first && b) bs e)

pub each_of : (first : Bool) (bs : List Bool) (i : ℕ) → all_of first bs ≡ true → get_or bs i true ≡ true
unfolding all_of
each_of first [] i e = refl
each_of first (b ∷ bs) zero e = and_right first b (first_of (first && b) bs e)
each_of first (b ∷ bs) (suc i) e = each_of (first && b) bs i e

-- ---- a header's limits
pub record HeaderFit (h : Header) : Type 0 where
  pub wide : 1 ≤ h.grid.width
  pub high : 1 ≤ h.grid.height
  pub size : h.grid.width * h.grid.height ≤ most_cells
  pub x : is_measure h.x_corner ≡ true
  pub y : is_measure h.y_corner ≡ true
  pub cell : is_measure h.cell_size ≡ true
  pub none : whole_fits h.no_data ≡ true

pub header_fit : (h : Header) → header_fits h ≡ true → HeaderFit h
unfolding header_fits grid_fits cells_of all_of
header_fit h e =
    let g = h.grid in
    let tests = grid_fits g ∷ is_measure h.x_corner ∷ is_measure h.y_corner ∷ is_measure h.cell_size ∷ whole_fits h.no_data ∷ [] in
    let sizes = leb 1 g.width ∷ leb 1 g.height ∷ leb (cells_of g) most_cells ∷ [] in
    record {
      wide = leb-true 1 g.width (each_of true sizes 0 (each_of true tests 0 e));
      high = leb-true 1 g.height (each_of true sizes 1 (each_of true tests 0 e));
      size = leb-true (cells_of g) most_cells (each_of true sizes 2 (each_of true tests 0 e));
      x = each_of true tests 1 e;
      y = each_of true tests 2 e;
      cell = each_of true tests 3 e;
      none = each_of true tests 4 e;
    }

-- ---- cells that all pass: the first does, and so do those after it
module _ (no_data z : ℤ) (zs : List ℤ) (all : length (z ∷ zs) ≤ passing (cell_fits no_data) (z ∷ zs)) where
  passes : cell_fits no_data z ≡ true
  unfolding passing
  passes = by_cases (cell_fits no_data z) (λ e. e) (λ e. absurd (not-suc-le-zero (rw e at all)))

  pub first_whole : whole_fits z ≡ true
  unfolding cell_fits
  first_whole = and_left (whole_fits z) (not (is_same z no_data)) passes

  pub rest_pass : length zs ≤ passing (cell_fits no_data) zs
  unfolding passing
  rest_pass = le_of_suc-le-suc (rw passes at all)
