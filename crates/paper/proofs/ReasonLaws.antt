-- Why this cell got that figure: the reason that is named holds, no earlier one does, and some reason always holds.
-- The first six are named only where they hold. Where none of them does, the cell is land, infiltration is at least potential evapotranspiration, and the
-- excess is not above the cover's largest: then rule 7 recharges all of it, which is what the seventh says.
use mathlib.Core.Logic.{inl, inr}
use mathlib.Core.Path.{◌≡◌, refl, sym, ap, ◌∙◌, subst⁻¹}
use mathlib.Core.Bool.{true, false, cond, true≢false}
use Prim.Native.Nat.{ℕ, suc, ◌-◌, ◌≤◌, ◌<◌}
use native.Mathlib.Nat.{eq-or-lt_of_le, le_of_suc-le-suc, le_antisymm, le_of_lt, min-eq_left, min-eq_right}
use native.Mathlib.Omega.{arith}
use lib.Dec.{eqb, lit<}
use borrow.Author.Tests.{ltb-true, ltb-false, leb-true, eqb-true, eq-eqb}
use Rattle.theory.proofs.Cases.{by_cases, below_or_not, and_left, cond_true, cond_false}
use Rattle.paper.specs.Setup.{Setup, Cell, cell, cells, next}
use Rattle.paper.specs.State.{State, Day, most_soil_of, soil_at, snow_at}
use Rattle.paper.specs.Soil.{SoilDay, excess, wet_day, dry_day, soil_day}
use Rattle.paper.specs.CellDay.{Today, today, ground_of, Figures, open_day, land_day}
use Rattle.paper.specs.Flow.{water}
use Rattle.paper.specs.Refusals.{Refusal, accepted, refused, verdict}
use Rattle.paper.specs.Day.{Results, own, passed, figures, verdict_of, figures_of}
use Rattle.paper.specs.Reasons.{
  Facts,
  facts_for,
  facts_of,
  facts_at,
  Reason,
  open_water,
  under_snow,
  no_water,
  below_potential,
  room_for_all,
  above_largest,
  all_recharged,
  reason_number,
  holds,
  reason_of,
  by_refusal,
  explained,
  explained_as,
  why_tests,
  why_of,
}
use Rattle.paper.proofs.CellDayLaws.{day_open, day_land}
use Rattle.paper.proofs.DayLaws.{sound_day, reached}
use Rattle.paper.proofs.SoilLaws.{rule_7, rule_8, by_rule}

-- a reason comes back from its number
reason_from : ℕ → Reason
reason_from number =
    cond (eqb number 1) open_water
    (cond (eqb number 2) under_snow
    (cond (eqb number 3) no_water
    (cond (eqb number 4) below_potential
    (cond (eqb number 5) room_for_all
    (cond (eqb number 6) above_largest
    all_recharged)))))

from_number : (r : Reason) → reason_from (reason_number r) ≡ r
unfolding reason_from reason_number
from_number open_water = refl
from_number under_snow = refl
from_number no_water = refl
from_number below_potential = refl
from_number room_for_all = refl
from_number above_largest = refl
from_number all_recharged = refl

pub reason_only : (q r : Reason) → reason_number q ≡ reason_number r → q ≡ r
reason_only q r e = sym (from_number q) ∙ ap reason_from e ∙ from_number r

-- no reason before this one holds
unfoldable pub NoEarlier : Facts → ℕ → Type 0
NoEarlier f number = (q : Reason) → reason_number q < number → holds q f ≡ false

-- the reason holds, and none before it
pub record First (f : Facts) (r : Reason) : Type 0 where
  pub named : holds r f ≡ true
  pub earlier : NoEarlier f (reason_number r)

module _ (f : Facts) where
  none_first : NoEarlier f 1
  unfolding NoEarlier reason_number
  none_first = elim [
    | open_water ↦ λ h. absurd (omega arith)
    | under_snow ↦ λ h. absurd (omega arith)
    | no_water ↦ λ h. absurd (omega arith)
    | below_potential ↦ λ h. absurd (omega arith)
    | room_for_all ↦ λ h. absurd (omega arith)
    | above_largest ↦ λ h. absurd (omega arith)
    | all_recharged ↦ λ h. absurd (omega arith)
  ]

  -- one more that does not hold
  one_more_lem : (r : Reason) → NoEarlier f (reason_number r) → holds r f ≡ false → NoEarlier f (suc (reason_number r))
  unfolding NoEarlier
  one_more_lem r before e q h =
      elim (eq-or-lt_of_le (le_of_suc-le-suc h)) [
        | inl same ↦ ap (λ (x : Reason). holds x f) (reason_only q r same) ∙ e
        | inr less ↦ before q less
      ]

  -- the first true one is named, if the seventh holds where the others fail
  pub first_named : (NoEarlier f 7 → holds all_recharged f ≡ true) → First f (reason_of f)
  unfolding reason_of reason_number
  first_named last =
      step open_water _ none_first
      (λ b1. step under_snow _ b1
      (λ b2. step no_water _ b2
      (λ b3. step below_potential _ b3
      (λ b4. step room_for_all _ b4
      (λ b5. step above_largest _ b5
      (λ b6. record { named = last b6; earlier = b6 }))))))
    where
      step : (r otherwise : Reason) → NoEarlier f (reason_number r)
          → (NoEarlier f (suc (reason_number r)) → First f otherwise) → First f (cond (holds r f) r otherwise)
      step r otherwise before later =
          by_cases (holds r f)
          (λ e. subst⁻¹ (First f) (cond_true _ e _ _) (record { named = e; earlier = before }))
          (λ e. subst⁻¹ (First f) (cond_false _ e _ _) (later (one_more_lem r before e)))

-- of a cell's day
module _ (c : Cell) (t : Today) (soil snow inflow : ℕ) where
  abbrev f : Facts
  f = facts_of c t soil snow inflow

  -- land that recharges by rule 7, where no more is left over than the cover takes
  seventh : c.open? ≡ false → t.potential ≤ f.infiltration → f.excess ≤ f.largest → f.recharged ≡ f.excess
  unfolding facts_of facts_for land_day ground_of wet_day
  seventh land wet little =
      rw (day_land c t soil snow inflow land, rule_7 c.capacity c.largest soil f.infiltration t.potential wet) (min-eq_left little)

  pub first_reason : First f (reason_of f)
  unfolding NoEarlier holds reason_number facts_of facts_for
  first_reason =
      first_named f
      (λ before.
      eq-eqb _ _ (seventh (before open_water (lit< tt)) (ltb-false _ _ (before below_potential (lit< tt))) (ltb-false _ _ (before above_largest (lit< tt)))))

  -- The named reason holds;
  pub named_reason_holds : holds (reason_of f) f ≡ true
  named_reason_holds = first_reason.named

  -- no earlier one does;
  pub no_earlier_reason_holds : (q : Reason) → reason_number q < reason_number (reason_of f) → holds q f ≡ false
  unfolding NoEarlier
  no_earlier_reason_holds = first_reason.earlier

  -- and some reason always holds.
  pub some_reason_holds : (r : Reason) × (holds r f ≡ true)
  some_reason_holds = (reason_of f, named_reason_holds)

-- only one reason is the first
pub first_only : (f : Facts) (q r : Reason) → First f q → First f r → q ≡ r
unfolding NoEarlier
first_only f q r a b =
    below_or_not (reason_number q) (reason_number r) (λ h. absurd (true≢false (sym a.named ∙ b.earlier q h)))
    (λ h. below_or_not (reason_number r) (reason_number q) (λ k. absurd (true≢false (sym b.named ∙ a.earlier r k)))
    (λ k. reason_only q r (le_antisymm k h)))

-- what each reason says of the recharge: none, the cover's largest, or all the excess
unfoldable pub recharged_by : Reason → Facts → ℕ
recharged_by open_water f = 0
recharged_by under_snow f = 0
recharged_by no_water f = 0
recharged_by below_potential f = 0
recharged_by room_for_all f = 0
recharged_by above_largest f = f.largest
recharged_by all_recharged f = f.excess

-- rules 7 and 8 recharge the smaller of the excess and the largest; without room for a surplus there is an excess
module _ (C largest soil n E : ℕ) (held : soil ≤ C) where
  none_left : (n - E ≤ C - soil) → (soil_day C largest soil n E).recharged ≡ 0
  unfolding wet_day dry_day excess
  none_left room = by_rule C largest soil n E (λ r. r.recharged ≡ 0) (λ h. omega arith) (λ h. refl)

  none_below : n < E → (soil_day C largest soil n E).recharged ≡ 0
  unfolding dry_day
  none_below less = ap (λ (r : SoilDay). r.recharged) (rule_8 C largest soil n E less)

  the_largest : E ≤ n → largest < excess C soil n E → (soil_day C largest soil n E).recharged ≡ largest
  unfolding wet_day
  the_largest enough more = ap (λ (r : SoilDay). r.recharged) (rule_7 C largest soil n E enough) ∙ min-eq_right (le_of_lt more)

module _ (c : Cell) (t : Today) (soil snow inflow : ℕ) (held : soil ≤ most_soil_of c) where
  abbrev g : Facts
  g = facts_of c t soil snow inflow

  -- on land, by the soil
  ground : c.open? ≡ false → (x : ℕ) → (soil_day c.capacity c.largest soil g.infiltration t.potential).recharged ≡ x → g.recharged ≡ x
  unfolding facts_of facts_for land_day ground_of
  ground land x e = ap (λ (r : Figures). r.recharged) (day_land c t soil snow inflow land) ∙ e

  within : c.open? ≡ false → soil ≤ c.capacity
  unfolding most_soil_of
  within land = rw (cond_false c.open? land) at held

  -- no water, no surplus
  dry_ground : c.open? ≡ false → g.water ≡ 0 → g.recharged ≡ 0
  unfolding facts_of facts_for
  dry_ground land none = ground land 0 (none_left c.capacity c.largest soil g.infiltration t.potential (within land) (omega (arith, none)))

  by_reason : (r : Reason) → First g r → g.recharged ≡ recharged_by r g
  unfolding NoEarlier holds recharged_by reason_number facts_of facts_for open_day
  by_reason open_water first = ap (λ (r : Figures). r.recharged) (day_open c t soil snow inflow first.named)
  by_reason under_snow first = dry_ground (first.earlier open_water (lit< tt)) (eqb-true _ _ (and_left _ _ first.named))
  by_reason no_water first = dry_ground (first.earlier open_water (lit< tt)) (eqb-true _ _ first.named)
  by_reason below_potential first =
      let land = first.earlier open_water (lit< tt) in
      ground land 0 (none_below c.capacity c.largest soil g.infiltration t.potential (within land) (ltb-true _ _ first.named))
  by_reason room_for_all first =
      let land = first.earlier open_water (lit< tt) in
      ground land 0 (none_left c.capacity c.largest soil g.infiltration t.potential (within land) (leb-true _ _ first.named))
  by_reason above_largest first =
      let land = first.earlier open_water (lit< tt) in
      ground land c.largest
      (the_largest c.capacity c.largest soil g.infiltration t.potential (within land) (ltb-false _ _ (first.earlier below_potential (lit< tt))) (ltb-true _ _ first.named))
  by_reason all_recharged first = eqb-true _ _ first.named

  -- The reason tells what recharged.
  pub reason_tells_recharge : g.recharged ≡ recharged_by (reason_of g) g
  reason_tells_recharge = by_reason (reason_of g) (first_reason c t soil snow inflow)

-- Of a setup, a state before the day, a day and a cell: an accepted day is explained by its first true reason, a refused one by its refusal.
module _ (s : Setup) (st : State) (d : Day) (i : ℕ) where
  pub accepted_explained : verdict (why_tests s st d i) ≡ accepted → why_of s st d i ≡ explained (facts_at s st d i)
  unfolding why_of explained_as
  accepted_explained e = ap (explained_as (facts_at s st d i)) e

  pub refused_explained : (why : Refusal) → verdict (why_tests s st d i) ≡ refused why → why_of s st d i ≡ by_refusal why
  unfolding why_of explained_as
  refused_explained why e = ap (explained_as (facts_at s st d i)) e

  pub first_of_the_day : First (facts_at s st d i) (reason_of (facts_at s st d i))
  unfolding facts_at
  first_of_the_day = first_reason (cell s i) (today s.climate st.past d) (soil_at st i) (snow_at st i) _

  -- the facts are those of the day's figures
  pub facts_recharged : (facts_at s st d i).recharged ≡ (figures_of s st d i).recharged
  unfolding facts_at facts_of facts_for figures_of figures
  facts_recharged = refl

  pub facts_snow : (facts_at s st d i).end_snow ≡ (figures_of s st d i).snow
  unfolding facts_at facts_of facts_for figures_of figures
  facts_snow = refl

  -- and w is the water that reaches the cell, upslope first
  pub facts_water : (r : Results) → verdict_of s st r d ≡ accepted → i < cells s
      → (facts_at s st d i).water ≡ water (cells s) (next s) (passed s st (today s.climate st.past d)) (own s st (today s.climate st.past d)) i
  unfolding facts_at facts_of facts_for own
  facts_water r e h = sym (reached s st r d (sound_day s st r d e) i h)
