-- Whether the text fits is told by where it would end, as it is seen by writing it into nothing: a lent output is shorter than the farthest place. A text is
-- answered only where nothing is wrong, and stands at the front of the output then.
use mathlib.Core.Bool.{true, false}
use mathlib.Core.List.{List, [], ◌++◌}
use mathlib.Core.Path.{◌≡◌, refl, sym, ap, ◌∙◌}
use Prim.Native.Nat.{ℕ, ◌≤◌, ◌<◌}
use native.Mathlib.Omega.{arith}
use lib.ListN.{length, take}
use lib.Seq.{sets, take_all, take_at, length-sets, sets-eq}
use borrow.Author.Tests.{le-leb, lt-leb, leb-true}
use Rattle.words.specs.Writing.{farthest, Put}
use Rattle.words.proofs.WritingLaws.{put_length}
use Rattle.std.specs.Prelude.{Result, Ok, Err}
use Rattle.desk.specs.declared.faults.Fault.{Fault}
use Rattle.desk.specs.declared.faults.Fault.TheVariants.{Covers, TooLong}
use Rattle.desk.specs.Faults.{◌then◌, unless, answer_of, on_passed}
use Rattle.desk.specs.CoverFile.{is_cover_file}
use Rattle.desk.specs.Texts.{Files, text_of}
use Rattle.desk.specs.Answers.{test_length, test_contents, test_files, Fitted, Sets}
use Rattle.desk.proofs.ReadLaws.{grids_tested}
use Rattle.desk.proofs.FaultLaws.{by_test, passed_after, fits_unless}

module _ (text before nothing : List ℕ) (end : ℕ) (room : length before < farthest) (p : Put 0 text [] nothing end) where
  none : nothing ≡ []
  none = sym (take_all 0 nothing (omega (arith, put_length p)))

  same_room : length (nothing ++ before) ≡ length before
  same_room = rw none refl

  pub too_long : length (nothing ++ before) < end → Fitted text before (nothing ++ before) (Err (TooLong end))
  unfolding test_length unless answer_of on_passed
  too_long h =
      let long = lt-leb (length text) (length before) (omega (arith, p.end, same_room)) in
      rw none (record { result = rw long (ap (λ (n : ℕ). Err (TooLong n)) (omega (arith, p.end))); bytes = rw long refl })

  pub fitting : {after : List ℕ} {r : ℕ} → end ≤ length (nothing ++ before) → Put 0 text (nothing ++ before) after r → Fitted text before after (Ok end)
  unfolding test_length unless answer_of on_passed
  fitting h w =
      let short = le-leb (length text) (length before) (omega (arith, p.end, same_room)) in
      record { result = rw short (ap Ok (omega (arith, p.end, same_room))); bytes = rw short (rw none at w.buffer) }

-- ---- the whole answer: what is wrong with the grids or the cover file, or what comes of the length
answers_fault : (f : Files) (before : List ℕ) (fault : Fault) → test_contents f ≡ Err fault → Sets f before before (Err fault)
unfolding test_files ◌then◌ answer_of on_passed
answers_fault f before fault e = record { result = rw e refl; bytes = rw e refl }

pub answers_grids : (f : Files) (before : List ℕ) (fault : Fault) → grids_tested f ≡ Err fault → Sets f before before (Err fault)
unfolding ◌then◌
answers_grids f before fault e = answers_fault f before fault (rw e refl)

pub answers_covers : (f : Files) (before : List ℕ) → grids_tested f ≡ Ok tt → is_cover_file f.covers ≡ false → Sets f before before (Err Covers)
unfolding ◌then◌ unless
answers_covers f before e other = answers_fault f before Covers (rw (e, other) refl)

pub none_wrong : (f : Files) → grids_tested f ≡ Ok tt → is_cover_file f.covers ≡ true → test_contents f ≡ Ok tt
unfolding ◌then◌ unless
none_wrong f e good = rw (e, good) refl

pub answers_text :
    (f : Files) {text before after : List ℕ} {r : Result ℕ Fault} → test_contents f ≡ Ok tt → text ≡ text_of f → Fitted text before after r → Sets f before after r
unfolding test_files ◌then◌
answers_text f e same fitted = rw e (rw same at fitted)

-- ---- a text that is answered stands at the front of the output
module _ (f : Files) (before after : List ℕ) (r : Result ℕ Fault) (n : ℕ) (sets' : Sets f before after r) (is : r ≡ Ok n) where
  passed : test_files f (length before) ≡ Ok tt
  unfolding answer_of
  passed =
      by_test (test_files f (length before)) (λ e. e)
      (λ fault e. absurd (let o : ◌≡◌ {A = ℕ} 0 1 = let wrong = rw e at sets'.result in cc in omega arith))

  count_is : n ≡ length (text_of f)
  unfolding answer_of
  count_is = let same = rw passed at sets'.result in cc

  fits : length (text_of f) ≤ length before
  unfolding test_files test_length
  fits = leb-true (length (text_of f)) (length before) (fits_unless _ _ (passed_after _ _ passed))

  written : after ≡ sets before 0 (text_of f)
  unfolding on_passed
  written = rw passed at sets'.bytes

  pub text_within : n ≤ length after
  text_within = omega (arith, count_is, fits, ap length written ∙ length-sets before 0 (text_of f))
