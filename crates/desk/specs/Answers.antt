-- What is answered to the desk's six files, and what stands in the lent output then.
use Rattle.std.specs.Prelude.{List, Result, ◌≡◌, ℕ, min, leb, length}
use Rattle.std.proofs.lemmas.List.Edits.{sets}
use Rattle.words.specs.Writing.{farthest}
use Rattle.desk.specs.declared.faults.Fault.{Fault}
use Rattle.desk.specs.declared.faults.Fault.TheVariants.{Covers, TooLong}
use Rattle.desk.specs.Faults.{Tested, ◌then◌, unless, answer_of, on_passed}
use Rattle.desk.specs.Sheets.{sheet_of, test_grids}
use Rattle.desk.specs.CoverFile.{is_cover_file}
use Rattle.desk.specs.Texts.{Files, text_of}

-- a text that does not fit: where it would end
unfoldable pub test_length : List ℕ → ℕ → Tested
test_length text room = unless (leb (length text) room) (TooLong (min (length text) farthest))

-- the grids, then the cover file
abbrev pub test_contents : Files → Tested
test_contents f =
    test_grids (sheet_of f.direction) (sheet_of f.cover) (sheet_of f.group) (sheet_of f.water) then unless (is_cover_file f.covers) Covers

unfoldable pub test_files : Files → ℕ → Tested
test_files f room = test_contents f then test_length (text_of f) room

-- where nothing is wrong the text stands at the front of the output, every other byte being as it was; else the output is as it was
pub record Answers (tested : Tested) (text before after : List ℕ) (r : Result ℕ Fault) : Type 0 where
  pub result : r ≡ answer_of tested (length text)
  pub bytes : after ≡ on_passed tested (sets before 0 text) before

-- the same where only the length can be wrong
abbrev pub Fitted : List ℕ → List ℕ → List ℕ → Result ℕ Fault → Type 0
Fitted text before after r = Answers (test_length text (length before)) text before after r

-- the desk's files
abbrev pub Sets : Files → List ℕ → List ℕ → Result ℕ Fault → Type 0
Sets f before after r = Answers (test_files f (length before)) (text_of f) before after r
