-- A fresh state: each cell's soil is full by the root depth that its slot finds, and a refused one hands back the lent stores, and no past.
use mathlib.Core.Path.{◌≡◌, refl, sym, ap, ◌∙◌}
use mathlib.Core.Bool.{true}
use mathlib.Core.List.{List, [], ◌∷◌, ◌++◌}
use Prim.Native.Nat.{ℕ, ◌*◌, ◌≤◌, ◌<◌}
use native.Mathlib.Nat.{mul-le-mul}
use native.Mathlib.Omega.{arith}
use lib.ListN.{length, get_or}
use Rattle.theory.specs.Lists.{made}
use Rattle.theory.proofs.ListLaws.{made_cong}
use Rattle.paper.specs.Setup.{Setup, cell, cells, next}
use Rattle.paper.specs.State.{no_past, most_soil_of, fresh_state}
use Rattle.paper.specs.Refusals.{Refusal, Verdict, accepted, refused, verdict, one_each, setup_lengths, setup_tests}
use Rattle.paper.specs.Day.{check_of, fresh_of, fresh_as}
use Rattle.paper.proofs.SetupLaws.{Charted}
use borrow.Author.Tests.{eqb-true}
use Rattle.theory.proofs.Cases.{and_left, and_right}
use Rattle.records.specs.Verdicts.{refusal_in, verdict_in}
use Rattle.covers.specs.Slots.{group_number_at, cell_from, most_capacity}
use Rattle.covers.proofs.SlotLaws.{soil_most, root_at, root_most}
use Rattle.covers.proofs.TableLaws.{count_limit}
use Rattle.survey.specs.Charts.{SlotsFit, Mapped}
use Rattle.stores.specs.Fresh.{Filled}
use Rattle.std.specs.Prelude.{Result, Ok, Err}
use Rattle.records.specs.Answers as code
use Rattle.records.specs.Past.{past_as}
use Rattle.records.specs.declared.verdicts.Refusal as records
use Rattle.records.specs.declared.past.Past as code-past
use Rattle.records.proofs.VerdictLaws.{refused_not, verdict_back}
use Rattle.survey.proofs.CallLaws.{more_fit}
use Rattle.survey.proofs.CellLaws.{cell_is}
use Rattle.survey.proofs.MapLaws.{sound_setup, waters_each, slot_at_lem, slots_fit}

-- what a fill writes into cell i's soil: its slot is one of the array's, and its available water times that slot's root depth is all that it holds
module _ (covers slots available roots : List ℕ) (fits : SlotsFit covers (length available) slots available) (r : roots ≡ made 256 (group_number_at covers 11)) (i : ℕ) (h : i < length available) where
  pub slot_inside : get_or slots i 0 < 256
  slot_inside = omega (arith, fits.slotted i h, count_limit covers fits.table)

  pub full_fits : get_or available i 0 * get_or roots (get_or slots i 0) 0 ≤ most_capacity
  full_fits =
      mul-le-mul {m₂ = 1000} (fits.watered i h) (rw (root_at covers roots (get_or slots i 0) r slot_inside) (root_most covers fits.table (get_or slots i 0) (fits.slotted i h)))

  pub full_is : get_or available i 0 * get_or roots (get_or slots i 0) 0 ≡ most_soil_of (cell_from covers (get_or slots i 0) (get_or available i 0) 0)
  full_is = rw (root_at covers roots (get_or slots i 0) r slot_inside) (soil_most covers (get_or slots i 0) (get_or available i 0) 0)

-- the same refusal as another call's error
err_same : {A : Type 0} {why w : records.Refusal} → ◌≡◌ {A = Result (Unit {0}) records.Refusal} (Err why) (Err w) → ◌≡◌ {A = Result A records.Refusal} (Err why) (Err w)
err_same e = let same : _ ≡ _ = cc in ap Err same

module _ (s : Setup) (soil snow : List ℕ) where
  abbrev lengths : List ℕ
  lengths = setup_lengths s ++ length soil ∷ length snow ∷ []

  -- what comes back when a fresh state is refused
  pub refused_fresh : (why : Refusal) → verdict (setup_tests s lengths) ≡ refused why → code.fresh_as (Err (refusal_in why)) soil snow ≡ fresh_of s soil snow
  unfolding fresh_of fresh_as
  refused_fresh why v =
      (λ k. record { verdict = verdict_back (refused why) k; state = record { soil = soil; snow = snow; past = no_past } })
      ∙ sym (ap (fresh_as s soil snow) v)

  module _ (each : one_each (cells s) (length soil ∷ length snow ∷ []) ≡ true) where
    pub survey_fresh : (why : records.Refusal) → Err why ≡ verdict_in (check_of s) → code.fresh_as (Err why) soil snow ≡ fresh_of s soil snow
    survey_fresh why e = go (check_of s) refl
      where
        go : (v : Verdict) → check_of s ≡ v → code.fresh_as (Err why) soil snow ≡ fresh_of s soil snow
        go accepted q = absurd (refused_not _ why (sym (e ∙ ap verdict_in q)) refl)
        go (refused w) q =
            let same : Err why ≡ Err (refusal_in w) = e ∙ ap verdict_in q in
            ap (λ (r : Result code-past.Past records.Refusal). code.fresh_as r soil snow) (err_same same) ∙ refused_fresh w (more_fit s _ each ∙ q)

    module _ (v : check_of s ≡ accepted) (lent ways₀ slots ways order : List ℕ) (m : Mapped s lent ways₀ slots ways order) where
      chart : Charted s
      chart = (sound_setup s v).charted

      waters : length s.available ≡ cells s
      waters = waters_each s v

      pub fill_ask : SlotsFit s.covers (length s.available) slots s.available × (length soil ≡ length s.available) × (length snow ≡ length s.available)
      unfolding one_each
      fill_ask = (
        rw waters (slots_fit s chart lent slots m.slots_are m.slots_sized waters),
        eqb-true _ _ (search (and_left, and_right)) ∙ sym waters,
        eqb-true _ _ (search (and_left, and_right)) ∙ sym waters,
      )

      full_at : (i : ℕ) → i < cells s → most_soil_of (cell_from s.covers (get_or slots i 0) (get_or s.available i 0) 0) ≡ most_soil_of (cell s i)
      unfolding most_soil_of cell_from
      full_at i h =
          ap (λ (k : ℕ). most_soil_of (cell_from s.covers k (get_or s.available i 0) (next s i))) (slot_at_lem s chart lent slots m.slots_are m.slots_sized waters i h)
          ∙ ap most_soil_of (sym (cell_is s chart i h))

      pub accepted_fresh : (past : code-past.Past) (soil' snow' : List ℕ) → past_as past ≡ no_past → Filled s.covers slots s.available soil' snow'
          → code.fresh_as (Ok past) soil' snow' ≡ fresh_of s soil snow
      unfolding fresh_of fresh_as fresh_state
      accepted_fresh past soil' snow' none full =
          (λ k. record {
            verdict = accepted;
            state =
                record {
                  soil =
                      (full.soils ∙ ap (λ (n : ℕ). made n (λ i. most_soil_of (cell_from s.covers (get_or slots i 0) (get_or s.available i 0) 0))) waters
                      ∙ made_cong (cells s) _ _ full_at) k;
                  snow = (full.snows ∙ ap (λ (n : ℕ). made {A = ℕ} n (λ i. 0)) waters) k;
                  past = none k;
                };
          })
          ∙ sym (ap (fresh_as s soil snow) (more_fit s _ each ∙ v))
