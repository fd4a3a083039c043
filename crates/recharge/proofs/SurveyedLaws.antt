-- A day of a setup that its survey has passed: tests 7 to 10, asked by the slots that the survey left, are what is left of the ten.
use mathlib.Core.Bool.{true}
use mathlib.Core.List.{List}
use lib.ListN.{replicate}
use mathlib.Core.Path.{◌≡◌, refl, sym, ap, ◌∙◌}
use Prim.Native.Nat.{ℕ}
use Rattle.paper.specs.Setup.{Setup, cells}
use Rattle.paper.specs.State.{State, Day}
use Rattle.paper.specs.CellDay.{Today, today}
use Rattle.paper.specs.Refusals.{Refusal, Verdict, accepted, refused, verdict, one_each, day_tests}
use Rattle.paper.specs.Day.{Results, no_totals, check_of, verdict_of, lengths_of, day_of}
use Rattle.paper.proofs.DayLaws.{SoundDay, sound_day}
use Rattle.records.specs.Verdicts.{refusal_as, verdict_in}
use Rattle.records.specs.Verdicts as verdicts
use Rattle.records.specs.declared.verdicts.Refusal as code
use Rattle.records.proofs.VerdictLaws.{refused_not}
use Rattle.std.specs.Prelude.{Err}
use Rattle.weather.specs.Today.{weather_of}
use Rattle.weather.proofs.TodayLaws.{today_fits}
use Rattle.covers.specs.Plots.{plots_of}
use Rattle.survey.specs.Charts.{Mapped}
use Rattle.stores.specs.States.{lent_tests}
use Rattle.stores.proofs.TestLaws.{Testable}
use Rattle.admission.specs.Tests.{later_tests}
use Rattle.admission.proofs.TestLaws.{two_each, later_paper, lent_decides, survey_decides, day_decides}
use Rattle.recharge.specs.Surveyed.{DayReady, lent_lengths}
use Rattle.recharge.proofs.AnswerLaws.{refused_answer}

-- what a survey into arrays of zeros leaves, and lists with one entry a cell, are what a day asks for
pub surveyed_ready : (s : Setup) (st : State) (r : Results) {slots ways order : List ℕ} → check_of s ≡ accepted
    → Mapped s (replicate 4096 0) (replicate 4096 0) slots ways order → one_each (cells s) (lent_lengths st r) ≡ true
    → DayReady s slots ways order st r
surveyed_ready s st r passed mapped each =
    record { passed = passed; slots₀ = replicate 4096 0; ways₀ = replicate 4096 0; mapped = mapped; each = each }

module _ (s : Setup) (st : State) (r : Results) (d : Day) (slots ways order : List ℕ) (ok : DayReady s slots ways order st r) where
  tests_left : verdict_of s st r d ≡ verdict (day_tests s st d)
  unfolding verdict_of lengths_of
  tests_left = day_decides s (lent_lengths st r) st d ok.each ok.passed

  testable : Testable s st slots
  testable =
      let sizes = two_each _ _ _ _ ok.each in
      record {
        passed = ok.passed;
        lent = ok.slots₀;
        slots_are = ok.mapped.slots_are;
        slots_sized = ok.mapped.slots_sized;
        soils = sizes.0;
        snows = sizes.1;
      }

  module _ (t : Today) (is : t ≡ weather_of s.climate st.past d) where
    -- the verdict of the later tests is that of all
    pub told : (plots₀ plots : List ℕ) → plots ≡ plots_of t s.covers plots₀ → (v : verdicts.Verdict)
        → v ≡ verdict_in (verdict (later_tests s.grid s.covers slots s.available st.soil st.snow st.past d plots))
        → v ≡ verdict_in (verdict_of s st r d)
    told plots₀ plots laid v e =
        e
        ∙ ap (λ (p : List ℕ). verdict_in (verdict (later_tests s.grid s.covers slots s.available st.soil st.snow st.past d p))) laid
        ∙ ap verdict_in (later_paper s st d slots plots₀ testable t is ∙ sym tests_left)

    -- and where they all pass, the day's weather is the paper's
    pub weather : verdict_of s st r d ≡ accepted → t ≡ today s.climate st.past d
    weather v = let sound : SoundDay s st r d = sound_day s st r d v in is ∙ today_fits s.climate st.past d sound.day sound.memory

-- a refusal of some tests that is the refusal of all
decided : {some all : Verdict} → ((why : Refusal) → some ≡ refused why → all ≡ refused why) → (why : code.Refusal) → Err why ≡ verdict_in some
    → Err why ≡ verdict_in all
decided {some} {all} decides why e = go some refl
  where
    go : (x : Verdict) → some ≡ x → Err why ≡ verdict_in all
    go accepted q = absurd (refused_not (Err why) why refl (e ∙ ap verdict_in q))
    go (refused w) q = e ∙ ap verdict_in (q ∙ sym (decides w q))

-- what is refused before the day's own tests leaves what was lent
module _ (s : Setup) (st : State) (r : Results) (d : Day) (why : code.Refusal) where
  abbrev Left : Type 0
  Left = record { verdict = refused (refusal_as why); results = r; totals = no_totals; state = st } ≡ day_of s st r d

  -- by tests 1 and 2 of the stores and the results
  pub lent_refuses : Err why ≡ verdict_in (verdict (lent_tests s.grid (lent_lengths st r))) → Left
  unfolding verdict_of lengths_of
  lent_refuses e = refused_answer s st r d why (decided (lent_decides s (lent_lengths st r) st d) why e)

  -- by the survey
  pub survey_refuses : one_each (cells s) (lent_lengths st r) ≡ true → Err why ≡ verdict_in (check_of s) → Left
  unfolding verdict_of lengths_of
  survey_refuses each e = refused_answer s st r d why (decided (survey_decides s (lent_lengths st r) st d each) why e)
