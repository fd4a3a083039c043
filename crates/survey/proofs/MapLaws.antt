-- A setup that the survey passed: its array of slots has the paper's, each of which the cover table has.
use mathlib.Core.Path.{◌≡◌}
use mathlib.Core.Bool.{true}
use mathlib.Core.List.{List, [], append-nil}
use Prim.Native.Nat.{ℕ, ◌<◌}
use lib.ListN.{length, get_or}
use borrow.Author.Tests.{leb-true, eqb-true}
use Rattle.theory.proofs.Cases.{and_left, and_right}
use Rattle.theory.specs.Lists.{made_over}
use Rattle.paper.specs.Setup.{Setup, cells, cell_fits}
use Rattle.paper.specs.Refusals.{accepted, one_each, setup_lengths}
use Rattle.paper.specs.Day.{check_of}
use Rattle.paper.proofs.SetupLaws.{Charted, Sound, sound}
use Rattle.survey.specs.Charts.{slot_of, SlotsFit}
use Rattle.survey.proofs.CellLaws.{slot_limit}
use Rattle.theory.proofs.ListLaws.{over_at}

pub sound_setup : (s : Setup) → check_of s ≡ accepted → Sound s (setup_lengths s)
unfolding check_of
sound_setup s v = sound s (setup_lengths s) [] (rw append-nil v)

pub waters_each : (s : Setup) → check_of s ≡ accepted → length s.available ≡ cells s
unfolding setup_lengths one_each
waters_each s v =
    let each : one_each (cells s) (setup_lengths s) ≡ true = (sound_setup s v).lent in eqb-true _ _ (search (and_left, and_right))

module _ (s : Setup) (ok : Charted s) (lent slots : List ℕ) (slots_are : slots ≡ made_over (cells s) (slot_of s) lent)
    (sized : length slots ≡ 4096) (each : length s.available ≡ cells s) where
  pub slot_at_lem : (i : ℕ) → i < cells s → get_or slots i 0 ≡ slot_of s i
  slot_at_lem i h = rw (slots_are) (over_at (cells s) (slot_of s) lent 0 i h)

  pub slots_fit : SlotsFit s.covers (cells s) slots s.available
  unfolding cell_fits
  slots_fit =
      record {
        table = record { sized = ok.sized; fit = ok.entered };
        few = ok.few;
        sized = sized;
        slotted = λ i h. rw (slot_at_lem i h) (slot_limit s ok i h);
        each = each;
        watered = λ i h. leb-true _ _ (let fits : cell_fits s i ≡ true = ok.celled i h in search (and_left, and_right));
      }
