-- The totals of a day: with one cell more, and summed over cells.
use Rattle.std.specs.Prelude.{Bool, ℕ, ◌+◌, ◌≤◌}
use Rattle.theory.specs.Sums.{sum, given}
use Rattle.paper.specs.CellDay.{Figures}
use Rattle.paper.specs.Day as paper

-- totals with one cell more, of whose rejected recharge so much has left the balance there
unfoldable pub with_cell : paper.Totals → ℕ → Figures → ℕ → ℕ → paper.Totals
with_cell t gross r left gone =
    record {
      gross = t.gross + gross;
      intercepted = t.intercepted + r.intercepted;
      evapotranspired = t.evapotranspired + r.evapotranspired;
      recharged = t.recharged + r.recharged;
      rejected = t.rejected + left;
      gone = t.gone + gone;
      stored = t.stored + (r.soil + r.snow);
    }

-- sums over n cells
unfoldable pub totals_by : ℕ → ℕ → (ℕ → Figures) → (ℕ → Bool) → (ℕ → Bool) → paper.Totals
totals_by n gross figure closed? gone? =
    record {
      gross = sum n (λ i. gross);
      intercepted = sum n (λ i. (figure i).intercepted);
      evapotranspired = sum n (λ i. (figure i).evapotranspired);
      recharged = sum n (λ i. (figure i).recharged);
      rejected = sum n (λ i. given (closed? i) (figure i).rejected);
      gone = sum n (λ i. given (gone? i) (figure i).outflow);
      stored = sum n (λ i. (figure i).soil + (figure i).snow);
    }

-- far above the totals of the largest grid, and far below 64 bits
abbrev pub roomy : ℕ
roomy = 1000000000000000000

pub record Room (t : paper.Totals) : Type 0 where
  pub gross : t.gross ≤ roomy
  pub intercepted : t.intercepted ≤ roomy
  pub evapotranspired : t.evapotranspired ≤ roomy
  pub recharged : t.recharged ≤ roomy
  pub rejected : t.rejected ≤ roomy
  pub gone : t.gone ≤ roomy
  pub stored : t.stored ≤ roomy
