-- The first true reason, test by test: each law has the tests that failed before it.
use mathlib.Core.Path.{◌≡◌, sym, ap, ◌∙◌}
use mathlib.Core.Bool.{true, false, cond}
use Prim.Native.Nat.{◌≤◌, ◌<◌}
use lib.Dec.{eqb, ltb}
use borrow.Author.Tests.{eq-eqb, ne_eqb, lt-ltb, le-ltb, le-leb, lt-leb}
use Rattle.theory.proofs.Cases.{and_both, and_first, and_second, cond_true, cond_false}
use Rattle.paper.specs.Reasons.{Facts, open_water, under_snow, no_water, below_potential, room_for_all, above_largest, all_recharged, holds, reason_of, because, with_depths, explained}

module _ (f : Facts) where
  pub told_open : f.open? ≡ true → because open_water f.gross f.inflow ≡ explained f
  unfolding explained reason_of holds with_depths
  told_open e = sym (ap (with_depths f) (cond_true f.open? e _ _))

  module _ (land : f.open? ≡ false) where
    pub told_snow : f.water ≡ 0 → 0 < f.end_snow → because under_snow f.water f.end_snow ≡ explained f
    unfolding explained reason_of holds with_depths
    told_snow dry lies =
        sym (ap (with_depths f) (cond_false f.open? land _ _
        ∙ cond_true _ (and_both _ _ (eq-eqb _ _ dry) (lt-ltb _ _ lies)) _ _))

    pub told_none : f.water ≡ 0 → f.end_snow ≤ 0 → because no_water f.water f.end_snow ≡ explained f
    unfolding explained reason_of holds with_depths
    told_none dry bare =
        sym (ap (with_depths f) (cond_false f.open? land _ _
        ∙ cond_false _ (and_second (eqb f.water 0) _ (le-ltb _ _ bare)) _ _
        ∙ cond_true _ (eq-eqb _ _ dry) _ _))

    module _ (wet : f.water ≡ 0 → ⊥) where
      -- neither of the two reasons of a dry ground
      past_dry : reason_of f
          ≡ cond (holds below_potential f) below_potential (cond (holds room_for_all f) room_for_all (cond (holds above_largest f) above_largest all_recharged))
      unfolding reason_of holds
      past_dry =
          cond_false f.open? land _ _ ∙ cond_false _ (and_first _ (ltb 0 f.end_snow) (ne_eqb _ _ wet)) _ _ ∙ cond_false _ (ne_eqb _ _ wet) _ _

      pub told_below : f.infiltration < f.potential → because below_potential f.infiltration f.potential ≡ explained f
      unfolding explained holds with_depths
      told_below less = sym (ap (with_depths f) (past_dry ∙ cond_true _ (lt-ltb _ _ less) _ _))

      module _ (enough : f.potential ≤ f.infiltration) where
        pub told_room : f.surplus ≤ f.room → because room_for_all f.surplus f.room ≡ explained f
        unfolding explained holds with_depths
        told_room fits = sym (ap (with_depths f) (past_dry ∙ cond_false _ (le-ltb _ _ enough) _ _ ∙ cond_true _ (le-leb _ _ fits) _ _))

        module _ (over : f.room < f.surplus) where
          past_room : reason_of f ≡ cond (holds above_largest f) above_largest all_recharged
          unfolding holds
          past_room = past_dry ∙ cond_false _ (le-ltb _ _ enough) _ _ ∙ cond_false _ (lt-leb _ _ over) _ _

          pub told_above : f.largest < f.excess → because above_largest f.excess f.largest ≡ explained f
          unfolding explained holds with_depths
          told_above more = sym (ap (with_depths f) (past_room ∙ cond_true _ (lt-ltb _ _ more) _ _))

          pub told_all : f.excess ≤ f.largest → because all_recharged f.excess f.largest ≡ explained f
          unfolding explained holds with_depths
          told_all little = sym (ap (with_depths f) (past_room ∙ cond_false _ (le-ltb _ _ little) _ _))
