-- The seven slices written along the order, one cell a turn: each is the lent one before the first turn, takes the figure of the cell whose turn it is,
-- and has every cell's figure after the last.
use mathlib.Core.Path.{◌≡◌, sym, ap}
use Prim.Native.Nat.{ℕ, ◌+◌, ◌≤◌, ◌<◌}
use lib.ListN.{set}
use Rattle.theory.specs.Lists.{made_along}
use Rattle.theory.specs.Ways.{UpslopeFirst}
use Rattle.theory.proofs.AlongLaws.{along_none, along_sized, along_write, along_done}
use Rattle.paper.specs.CellDay.{Figures}
use Rattle.recharge.specs.Downhill.{Slices, Sized, slices_by}

-- the places whose turn has come are written
pub record Written {n : ℕ} {next : ℕ → ℕ} (order : UpslopeFirst n next) (figure : ℕ → Figures) (s₀ : Slices) (t : ℕ) (s : Slices) : Type 0 where
  pub soil : s.soil ≡ made_along n order.turn t (λ i. (figure i).soil) s₀.soil
  pub snow : s.snow ≡ made_along n order.turn t (λ i. (figure i).snow) s₀.snow
  pub intercepted : s.intercepted ≡ made_along n order.turn t (λ i. (figure i).intercepted) s₀.intercepted
  pub outflow : s.outflow ≡ made_along n order.turn t (λ i. (figure i).outflow) s₀.outflow
  pub evapotranspired : s.evapotranspired ≡ made_along n order.turn t (λ i. (figure i).evapotranspired) s₀.evapotranspired
  pub recharged : s.recharged ≡ made_along n order.turn t (λ i. (figure i).recharged) s₀.recharged
  pub rejected : s.rejected ≡ made_along n order.turn t (λ i. (figure i).rejected) s₀.rejected

-- the slices with one cell's figures stored
abbrev pub stored : Slices → ℕ → Figures → Slices
stored s i r =
    record {
      soil = set s.soil i r.soil;
      snow = set s.snow i r.snow;
      intercepted = set s.intercepted i r.intercepted;
      outflow = set s.outflow i r.outflow;
      evapotranspired = set s.evapotranspired i r.evapotranspired;
      recharged = set s.recharged i r.recharged;
      rejected = set s.rejected i r.rejected;
    }

module _ {n : ℕ} {next : ℕ → ℕ} (order : UpslopeFirst n next) (figure : ℕ → Figures) (s₀ : Slices) where
  pub written_none : Sized n s₀ → Written order figure s₀ 0 s₀
  written_none e =
      record {
        soil = sym (along_none order _ _ e.soil);
        snow = sym (along_none order _ _ e.snow);
        intercepted = sym (along_none order _ _ e.intercepted);
        outflow = sym (along_none order _ _ e.outflow);
        evapotranspired = sym (along_none order _ _ e.evapotranspired);
        recharged = sym (along_none order _ _ e.recharged);
        rejected = sym (along_none order _ _ e.rejected);
      }

  module _ (t : ℕ) {s : Slices} (w : Written order figure s₀ t s) where
    pub written_sized : Sized n s
    written_sized =
        record {
          soil = along_sized order _ _ t _ w.soil;
          snow = along_sized order _ _ t _ w.snow;
          intercepted = along_sized order _ _ t _ w.intercepted;
          outflow = along_sized order _ _ t _ w.outflow;
          evapotranspired = along_sized order _ _ t _ w.evapotranspired;
          recharged = along_sized order _ _ t _ w.recharged;
          rejected = along_sized order _ _ t _ w.rejected;
        }

    pub written_more : t < n → (cell : ℕ) → cell ≡ order.who t → (r : Figures) → r ≡ figure cell → Written order figure s₀ (t + 1) (stored s cell r)
    written_more h cell whose r e =
        record {
          soil = along_write order _ _ t _ w.soil h cell whose _ (ap (λ (x : Figures). x.soil) e);
          snow = along_write order _ _ t _ w.snow h cell whose _ (ap (λ (x : Figures). x.snow) e);
          intercepted = along_write order _ _ t _ w.intercepted h cell whose _ (ap (λ (x : Figures). x.intercepted) e);
          outflow = along_write order _ _ t _ w.outflow h cell whose _ (ap (λ (x : Figures). x.outflow) e);
          evapotranspired = along_write order _ _ t _ w.evapotranspired h cell whose _ (ap (λ (x : Figures). x.evapotranspired) e);
          recharged = along_write order _ _ t _ w.recharged h cell whose _ (ap (λ (x : Figures). x.recharged) e);
          rejected = along_write order _ _ t _ w.rejected h cell whose _ (ap (λ (x : Figures). x.rejected) e);
        }

    pub written_all : n ≤ t → s ≡ slices_by n figure
    unfolding slices_by
    written_all h =
        λ k. record {
          soil = along_done order _ _ t _ w.soil h k;
          snow = along_done order _ _ t _ w.snow h k;
          intercepted = along_done order _ _ t _ w.intercepted h k;
          outflow = along_done order _ _ t _ w.outflow h k;
          evapotranspired = along_done order _ _ t _ w.evapotranspired h k;
          recharged = along_done order _ _ t _ w.recharged h k;
          rejected = along_done order _ _ t _ w.rejected h k;
        }
