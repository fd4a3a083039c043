-- Figure 3 of document 000, on the nine cells of a grid of three rows and three columns: the eight bytes lead from the middle to the eight
-- cells around it, a direction over the edge leaves, and any other byte is a closed depression.
use mathlib.Core.Path.{◌≡◌, refl}
use Prim.Native.Nat.{ℕ}
use Rattle.paper.specs.Directions.{Goes, to, leaves, stays, way_of, stepped, cell_at, goes_by}

-- where cell i of the nine goes
abbrev of_nine : ℕ → ℕ → Goes
of_nine i byte = goes_by 3 3 i (way_of byte)

pub record Figure3 : Type 0 where
  pub right : of_nine 4 1 ≡ to 5
  pub lower_right : of_nine 4 2 ≡ to 8
  pub down : of_nine 4 4 ≡ to 7
  pub lower_left : of_nine 4 8 ≡ to 6
  pub left : of_nine 4 16 ≡ to 3
  pub upper_left : of_nine 4 32 ≡ to 0
  pub up : of_nine 4 64 ≡ to 1
  pub upper_right : of_nine 4 128 ≡ to 2
  pub over_right : of_nine 2 1 ≡ leaves
  pub over_bottom : of_nine 7 4 ≡ leaves
  pub over_left : of_nine 3 16 ≡ leaves
  pub over_top : of_nine 1 64 ≡ leaves
  pub none : of_nine 4 0 ≡ stays
  pub other : of_nine 4 3 ≡ stays

pub figure_3 : Figure3
unfolding way_of stepped cell_at goes_by
figure_3 =
    record {
      right = refl;
      lower_right = refl;
      down = refl;
      lower_left = refl;
      left = refl;
      upper_left = refl;
      up = refl;
      upper_right = refl;
      over_right = refl;
      over_bottom = refl;
      over_left = refl;
      over_top = refl;
      none = refl;
      other = refl;
    }
