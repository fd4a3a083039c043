-- A text taken up: its numbers, and where its parts stand among them, or what is wrong before anything is run.
use Rattle.std.specs.Prelude.{cond, List, ◌≡◌, ℕ, ◌≤◌, length, Result, Ok, Err}
use Rattle.std.proofs.lemmas.List.Edits.{sets}
use Rattle.lines.specs.Reading.{Reading, given, codes, most_numbers}
use Rattle.text.specs.Program.{cell_count, cells_from, days_from, day_count, screen, unfit}
use Rattle.text.specs.declared.screening.BadText.{BadText}
use Rattle.text.specs.declared.taking.Layout.{Layout}

unfoldable pub layout_in : List ℕ → Layout
layout_in ns =
    record {
      numbers = length ns;
      cells = cell_count ns;
      cells_from = cells_from ns;
      days_from = days_from ns;
      days = day_count ns;
    }

unfoldable pub taken_in : List ℕ → Result ℕ BadText → Result Layout BadText
taken_in ns (Err why) = Err why
taken_in ns (Ok cells) = Ok (layout_in ns)

-- form first, then the tests before the run
unfoldable pub taken_of : Reading → Result Layout BadText
taken_of r = cond r.whole (taken_in (codes r.numbers) (screen (codes r.numbers))) (unfit 11 (length r.numbers))

-- the codes of all that was read stand at the front of the lent numbers, which have room for them, and the others are as lent
pub record TakenUp (input before after : List ℕ) (r : Result Layout BadText) : Type 0 where
  pub answer : r ≡ taken_of (given input)
  pub numbers : after ≡ sets before 0 (codes (given input).numbers)
  pub few : length (given input).numbers ≤ most_numbers
