-- What the reasons speak of, from the figures of a day that was accepted: read back from them, it is the paper's, but for the inflow on land, of which no
-- reason speaks, and for what open water has no use for.
use mathlib.Core.Path.{◌≡◌, sym, ap, ◌∙◌}
use mathlib.Core.Bool.{false}
use Prim.Native.Nat.{ℕ, ◌+◌, ◌-◌, ◌≤◌, ◌<◌}
use Rattle.theory.proofs.Cases.{by_cases, cond_false}
use Rattle.paper.specs.Setup.{Setup, Cell, cell, cells, cover_of, group_of, available_of}
use Rattle.paper.specs.State.{State, Day, most_soil_of, soil_at, snow_at}
use Rattle.paper.specs.CurveNumber.{curve_number}
use Rattle.paper.specs.CellDay.{Today, today, Figures, cell_day}
use Rattle.paper.specs.Day.{Results, figures, figures_of}
use Rattle.paper.specs.Reasons.{Facts, facts_for, facts_of, facts_at, open_water, because, explained}
use Rattle.paper.proofs.DayLaws.{SoundDay, small}
use Rattle.paper.proofs.ReadBackLaws.{infiltration_back, water_back, excess_back, inflow_back, with_inflow, land_alike}
use Rattle.reasons.specs.Grounds.{Ground, ground_by}
use Rattle.reasons.specs.Reading.{Left, infiltration_from, facts_from}
use Rattle.reasons.proofs.GroundLaws.{ground_is}
use Rattle.reasons.proofs.ReasonLaws.{told_open}

-- what a day's figures leave of a cell
abbrev pub left_of : Figures → Left
left_of r =
    record {
      outflow = r.outflow;
      evapotranspired = r.evapotranspired;
      recharged = r.recharged;
      rejected = r.rejected;
      soil = r.soil;
      snow = r.snow;
    }

abbrev ground_of : Cell → Ground
ground_of c = record { open? = c.open?; capacity = c.capacity; largest = c.largest }

module _ (c : Cell) (t : Today) (soil snow inflow : ℕ) (curve : curve_number t.condition c.N ≤ 100) (held : soil ≤ most_soil_of c) where
  abbrev r : Figures
  r = cell_day c t soil snow inflow

  abbrev read : Facts
  read = facts_from (ground_of c) t.gross t.potential soil (left_of r)

  land_read : c.open? ≡ false → read ≡ with_inflow (facts_of c t soil snow inflow) (r.outflow - t.gross)
  unfolding facts_from infiltration_from facts_of facts_for most_soil_of
  land_read land =
      let f = facts_of c t soil snow inflow in
      let n : infiltration_from soil (left_of r) ≡ f.infiltration = sym (infiltration_back c t soil snow inflow land) in
      let w : infiltration_from soil (left_of r) + (r.outflow - r.rejected) ≡ f.water
      = ap (λ (x : ℕ). x + (r.outflow - r.rejected)) n ∙ sym (water_back c t soil snow inflow land curve) in
      let x : r.recharged + r.rejected ≡ f.excess = sym (excess_back c t soil snow inflow land (rw (cond_false c.open? land) at held)) in
      (λ k.
      record {
        open? = c.open?;
        gross = t.gross;
        inflow = r.outflow - t.gross;
        water = w k;
        end_snow = r.snow;
        infiltration = n k;
        potential = t.potential;
        surplus = n k - t.potential;
        room = c.capacity - soil;
        excess = x k;
        recharged = r.recharged;
        largest = c.largest;
      })

  pub read_back : explained read ≡ explained (facts_of c t soil snow inflow)
  unfolding facts_from facts_of facts_for
  read_back =
      by_cases c.open?
      (λ water. sym (told_open read water)
      ∙ ap (because open_water t.gross) (sym (inflow_back c t soil snow inflow water))
      ∙ told_open (facts_of c t soil snow inflow) water)
      (λ land. ap explained (land_read land) ∙ land_alike c t soil snow inflow (r.outflow - t.gross) land)

-- of a cell of a day that was accepted
module _ (s : Setup) (st : State) (r : Results) (d : Day) (ok : SoundDay s st r d) (i : ℕ) (h : i < cells s) where
  pub cell_read : explained (facts_from (ground_by s.covers (cover_of s i) (group_of s i) (available_of s i)) d.gross d.potential (soil_at st i) (left_of (figures_of s st d i)))
      ≡ explained (facts_at s st d i)
  unfolding figures_of figures facts_at today
  cell_read =
      ap (λ (g : Ground). explained (facts_from g d.gross d.potential (soil_at st i) (left_of (figures_of s st d i)))) (ground_is s i)
      ∙ read_back (cell s i) _ (soil_at st i) (snow_at st i) _ (small s st r d ok i h) (ok.soil i h)
