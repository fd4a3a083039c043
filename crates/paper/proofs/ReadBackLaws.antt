-- What the reasons speak of, read back from a cell's figures: the soil's account gives the infiltration, the outflow less what is rejected the runoff, and rule 7
-- shares the excess between recharge and what is rejected. So the reason follows from the figures and from what the cell's soil and cover can take.
use mathlib.Core.Path.{◌≡◌, refl, sym, ◌∙◌}
use mathlib.Core.Bool.{true, false, true≢false}
use Prim.Native.Nat.{ℕ, ◌+◌, ◌-◌, ◌≤◌}
use native.Mathlib.Omega.{arith}
use Rattle.theory.proofs.Cases.{by_cases, cond_true}
use Rattle.paper.specs.Setup.{Cell}
use Rattle.paper.specs.CurveNumber.{curve_number}
use Rattle.paper.specs.Soil.{excess, wet_day, dry_day, soil_day}
use Rattle.paper.specs.CellDay.{Today, own_of, runoff_of, ground_of, passed_of, Figures, open_day, land_day, cell_day}
use Rattle.paper.specs.Reasons.{Facts, facts_for, facts_of, Reason, open_water, under_snow, no_water, below_potential, room_for_all, above_largest, all_recharged, holds, reason_of, with_depths, explained}
use Rattle.paper.proofs.CellDayLaws.{day_open, day_land, runoff_within, passed_closed, passed_on}
use Rattle.paper.proofs.SoilLaws.{by_rule, soil_account}
use Rattle.paper.proofs.ReasonLaws.{named_reason_holds}

-- rule 7 shares the excess, and a drying soil has none
excess_shared : (C largest soil n E : ℕ) → soil ≤ C → excess C soil n E ≡ (soil_day C largest soil n E).recharged + (soil_day C largest soil n E).rejected
unfolding wet_day dry_day excess
excess_shared C largest soil n E p =
    by_rule C largest soil n E (λ r. soil + n - E - C ≡ r.recharged + r.rejected) (λ h. omega arith) (λ h. omega arith)

module _ (c : Cell) (t : Today) (soil snow inflow : ℕ) where
  abbrev f : Facts
  f = facts_of c t soil snow inflow

  abbrev r : Figures
  r = cell_day c t soil snow inflow

  abbrev w : ℕ
  w = own_of c t snow + inflow

  module _ (land : c.open? ≡ false) where
    pub infiltration_back : f.infiltration ≡ r.evapotranspired + r.recharged + r.rejected + r.soil - soil
    unfolding facts_of facts_for land_day ground_of
    infiltration_back =
        rw (day_land c t soil snow inflow land)
        (omega (arith, soil_account c.capacity c.largest soil (w - runoff_of c t w) t.potential))

    -- what the cell rejects is in its outflow; in a closed depression there is neither outflow nor runoff
    runs_off : passed_of c t soil w - (ground_of c t soil w).rejected ≡ runoff_of c t w
    unfolding runoff_of
    runs_off =
        by_cases c.closed?
        (λ k. let none : runoff_of c t w ≡ 0 = cond_true c.closed? k _ _ in omega (arith, passed_closed c t soil w land k))
        (λ k. omega (arith, passed_on c t soil w land k))

    runoff_back : r.outflow - r.rejected ≡ runoff_of c t w
    unfolding land_day
    runoff_back = rw (day_land c t soil snow inflow land) runs_off

    pub water_back : curve_number t.condition c.N ≤ 100 → f.water ≡ f.infiltration + (r.outflow - r.rejected)
    unfolding facts_of facts_for
    water_back small = omega (arith, runoff_back, runoff_within c t w small)

    pub excess_back : soil ≤ c.capacity → f.excess ≡ r.recharged + r.rejected
    unfolding facts_of facts_for land_day ground_of
    excess_back held =
        rw (day_land c t soil snow inflow land) (excess_shared c.capacity c.largest soil (w - runoff_of c t w) t.potential held)

  -- open water passes off its gross precipitation and its inflow
  pub inflow_back : c.open? ≡ true → f.inflow ≡ r.outflow - t.gross
  unfolding facts_of facts_for open_day
  inflow_back water = rw (day_open c t soil snow inflow water) (omega arith)

-- the facts with another inflow
abbrev pub with_inflow : Facts → ℕ → Facts
with_inflow f inflow =
    record {
      open? = f.open?;
      gross = f.gross;
      inflow = inflow;
      water = f.water;
      end_snow = f.end_snow;
      infiltration = f.infiltration;
      potential = f.potential;
      surplus = f.surplus;
      room = f.room;
      excess = f.excess;
      recharged = f.recharged;
      largest = f.largest;
    }

depths_alike : (f : Facts) (x : ℕ) (q : Reason) → holds q f ≡ true → f.open? ≡ false → with_depths f q ≡ with_depths (with_inflow f x) q
unfolding with_depths holds
depths_alike f x open_water named land = absurd (true≢false (sym named ∙ land))
depths_alike f x under_snow named land = refl
depths_alike f x no_water named land = refl
depths_alike f x below_potential named land = refl
depths_alike f x room_for_all named land = refl
depths_alike f x above_largest named land = refl
depths_alike f x all_recharged named land = refl

-- of land no reason speaks of the inflow
pub land_alike : (c : Cell) (t : Today) (soil snow inflow x : ℕ) → c.open? ≡ false
    → explained (with_inflow (facts_of c t soil snow inflow) x) ≡ explained (facts_of c t soil snow inflow)
unfolding explained reason_of holds facts_of facts_for
land_alike c t soil snow inflow x land =
    sym (depths_alike (facts_of c t soil snow inflow) x _ (named_reason_holds c t soil snow inflow) land)
