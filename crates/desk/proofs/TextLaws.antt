-- What is written of the text, part after part.
use mathlib.Core.List.{List, [], ◌∷◌, ◌++◌, append_assoc}
use Prim.Native.Nat.{ℕ, ◌+◌, ◌≤◌}
use native.Mathlib.Numerals.{add-one}
use lib.IntN.{ℤ}
use lib.ListN.{length}
use mir.Syntax.{w32}
use mir.Val.{SFits}
use Rattle.paper.specs.Setup.{Grid, cells_of}
use Rattle.words.specs.Digits.{digits, written}
use Rattle.words.specs.Writing.{farthest, Put, Wrote}
use Rattle.words.proofs.WritingLaws.{put_none, put_then, put_as}
use Rattle.grids.specs.Forms.{most_whole}
use Rattle.grids.proofs.WholeLaws.{read, whole}
use Rattle.desk.specs.Texts.{Cells, line_of, cell_line, cell_lines, setup_text}

-- a number and the blank after it, as the machine's signed numbers have it
cell_put : {at r : ℕ} {l l' : List ℕ} (z : ℤ) (b : ℕ) → SFits w32 z → Wrote most_whole at (written (read z) ++ b ∷ []) l l' r → Put at (written z ++ b ∷ []) l l' r
cell_put z b h w = rw (whole z h) at w.put

pub line_put :
    {at a b c r : ℕ} {l l₁ l₂ l₃ l₄ : List ℕ} (direction cover group water : ℤ) → length l ≤ farthest
    → SFits w32 direction → SFits w32 cover → SFits w32 group → SFits w32 water
    → Wrote most_whole at (written (read direction) ++ 32 ∷ []) l l₁ a
    → Wrote most_whole a (written (read cover) ++ 32 ∷ []) l₁ l₂ b
    → Wrote most_whole b (written (read group) ++ 32 ∷ []) l₂ l₃ c
    → Wrote most_whole c (written (read water) ++ 10 ∷ []) l₃ l₄ r
    → Put at (line_of direction cover group water) l l₄ r
unfolding line_of
line_put direction cover group water long hd hc hg hw d c g w =
    put_as _ (put_then long (put_then long (put_then long (cell_put direction 32 hd d) (cell_put cover 32 hc c)) (cell_put group 32 hg g)) (cell_put water 10 hw w))
    (simp append_assoc)

module _ (cells : Cells) where
  pub lines_none : (at : ℕ) (l : List ℕ) → at ≤ farthest → Put at (cell_lines cells 0) l l at
  unfolding cell_lines
  lines_none at l h = put_none at l h

  pub lines_more :
      {at mid r : ℕ} {l l₁ l₂ : List ℕ} (i : ℕ) → length l ≤ farthest → Put at (cell_lines cells i) l l₁ mid → Put mid (cell_line cells i) l₁ l₂ r
      → Put at (cell_lines cells (i + 1)) l l₂ r
  unfolding cell_lines
  lines_more i long w v = rw (add-one i) (put_then long w v)

pub text_put :
    {a b c d e r : ℕ} {l l₁ l₂ l₃ l₄ l₅ l₆ : List ℕ} (grid : Grid) (covers : List ℕ) (cells : Cells) (weather : List ℕ) → length l ≤ farthest
    → Put 0 (digits grid.width ++ 32 ∷ []) l l₁ a
    → Put a (digits grid.height ++ 10 ∷ []) l₁ l₂ b
    → Put b covers l₂ l₃ c
    → Put c (10 ∷ []) l₃ l₄ d
    → Put d (cell_lines cells (cells_of grid)) l₄ l₅ e
    → Put e weather l₅ l₆ r
    → Put 0 (setup_text grid covers cells weather) l l₆ r
unfolding setup_text
text_put grid covers cells weather long p q s t u v =
    put_as _ (put_then long (put_then long (put_then long (put_then long (put_then long p q) s) t) u) v) (simp append_assoc)
