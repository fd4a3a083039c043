-- Laying the cells row by row: with the row and column kept beside the cell's number, each cell's way is the paper's, and so is where it points.
-- A cell that has a slot takes it and its way, and is counted by the cell to which it leads.
use mathlib.Core.Path.{◌≡◌, sym, ap, ◌∙◌}
use mathlib.Core.List.{List}
use mathlib.Core.Bool.{cond}
use Prim.Native.Nat.{ℕ, suc, ◌+◌, ◌*◌, ◌/◌, ◌≤◌, ◌<◌, zero-le}
use native.Mathlib.Nat.{mul-le-mul_right, not-suc-le-zero}
use native.Mathlib.Numerals.{add-one}
use native.Mathlib.Omega.{arith}
use lib.Dec.{eqb}
use lib.ListN.{length, get_or, set}
use borrow.Author.Count.{below_more}
use borrow.Author.Tests.{ne_eqb}
use Rattle.theory.specs.Lists.{made_over}
use Rattle.theory.proofs.Cases.{below_or_not}
use Rattle.theory.proofs.ListLaws.{over_none, over_more}
use Rattle.theory.specs.Lowest.{lowest}
use Rattle.paper.specs.Limits.{most_cells}
use Rattle.paper.specs.Covers.{open_of}
use Rattle.covers.specs.Slots.{open_at}
use Rattle.paper.specs.Directions.{Goes, way_of, goes_by}
use Rattle.paper.specs.Setup.{pointed}
use Rattle.records.specs.Places.{place_in}
use Rattle.std.specs.Prelude.{Some, None}
use Rattle.survey.specs.Order.{Counted, wait_for}
use Rattle.survey.specs.Cells.{way_from, way_at, LaidOrBad}
use Rattle.survey.proofs.DirectionLaws.{goes_at}
use Rattle.records.proofs.PlaceLaws.{PassedTo}
use Rattle.survey.proofs.CountLaws.{count_one}

-- at a cell without a slot nothing is said of the arrays
pub laid_bad : (n : ℕ) (slot way : ℕ → ℕ) (i : ℕ) (slots₀ slots ways₀ ways order : List ℕ) → Some i ≡ place_in (lowest n (λ j. eqb (slot j) 256))
    → LaidOrBad n slot way (Some i) slots₀ slots ways₀ ways order
laid_bad n slot way i slots₀ slots ways₀ ways order found =
    record { lowest_bad = found; slotted = λ e. absurd (never e); laid = λ e. absurd (never e); counted = λ e. absurd (never e) }
  where
    never : Some i ≡ None → ⊥
    never e = let z : ◌≡◌ {A = ℕ} 0 1 = cc in omega arith

module _ (width height : ℕ) (covers direction : List ℕ) (slot : ℕ → ℕ) (slots₀ ways₀ : List ℕ) where
  -- the first i cells have slots and are laid and counted, and i stands at that row and column
  pub record Laid (slots ways order : List ℕ) (row column i : ℕ) : Type 0 where
    pub at : i ≡ row * width + column
    pub inside : column < width
    pub within : i ≤ width * height
    pub passed : PassedTo (λ j. eqb (slot j) 256) i
    pub slotted : slots ≡ made_over i slot slots₀
    pub laid : ways ≡ made_over i (way_at width height covers slot direction) ways₀
    pub counted : Counted (width * height) (way_at width height covers slot direction) i order

  pub laid_none : (order : List ℕ) → 1 ≤ width → Counted (width * height) (way_at width height covers slot direction) 0 order
      → Laid slots₀ ways₀ order 0 0 0
  laid_none order h none =
      record {
        at = omega arith;
        inside = h;
        within = zero-le;
        passed = λ j l. absurd (not-suc-le-zero l);
        slotted = sym (over_none _ slots₀);
        laid = sym (over_none _ ways₀);
        counted = none;
      }

  module _ (slots ways order : List ℕ) (row column i : ℕ) (s : Laid slots ways order row column i) (h : i < width * height) where
    pub laid_row : row < height
    laid_row =
        below_or_not row height (λ l. l)
        (λ l. absurd (omega (arith, s.at, mul-le-mul_right {m = height} {n = row} width l)))

    way_is : way_from width height row column (open_of covers (slot i / 4)) (get_or direction i 0) ≡ way_at width height covers slot direction i
    unfolding way_from way_at
    way_is =
        ap (λ (g : Goes). cond (open_at covers (slot i)) (suc (suc most_cells)) (pointed g))
        (goes_at width height row column (way_of (get_or direction i 0)) s.inside
        ∙ ap (λ (k : ℕ). goes_by width height k (way_of (get_or direction i 0))) (sym s.at))

    module _ (found way : ℕ) (slots_sized : length slots₀ ≡ 4096) (ways_sized : length ways₀ ≡ 4096) (few : width * height ≤ 4096)
        (has : found ≡ slot i) (fits : found ≡ 256 → ⊥)
        (points : way ≡ way_from width height row column (open_of covers (found / 4)) (get_or direction i 0))
        (counts : List ℕ) (counts_are : counts ≡ wait_for (width * height) way order) where
      points_at : way ≡ way_at width height covers slot direction i
      points_at = points ∙ ap (λ (k : ℕ). way_from width height row column (open_of covers (k / 4)) (get_or direction i 0)) has ∙ way_is

      module _ (row' column' : ℕ) where
        laid_more : i + 1 ≡ row' * width + column' → column' < width
            → Laid (set slots i found) (set ways i way) counts row' column' (i + 1)
        laid_more at' inside' =
            record {
              at = at';
              inside = inside';
              within = omega arith;
              passed = below_more _ _ s.passed (ne_eqb _ _ (λ e. fits (has ∙ e)));
              slotted = rw (s.slotted, has, add-one) (over_more i _ slots₀ (omega arith));
              laid = rw (s.laid, points_at, add-one) (over_more i _ ways₀ (omega arith));
              counted = rw counts_are (count_one s.counted way (sym points_at) few);
            }

        -- on to the next row, or to the next column
        pub laid_down : column + 1 ≡ width → row' ≡ row + 1 → column' ≡ 0
            → Laid (set slots i found) (set ways i way) counts row' column' (i + 1)
        laid_down last down left = laid_more (rw (down, left) (omega (arith, s.at))) (omega (arith, s.inside))

        pub laid_right : (column + 1 ≡ width → ⊥) → row' ≡ row → column' ≡ column + 1
            → Laid (set slots i found) (set ways i way) counts row' column' (i + 1)
        laid_right more same right = laid_more (rw (same, right) (omega (arith, s.at))) (omega (arith, s.inside))
