-- What is printed, by each way out of the program: one equation of the whole text for each.
use mathlib.Core.Path.{◌≡◌, refl, sym, ap, ◌∙◌}
use mathlib.Core.List.{List}
use Prim.Native.Nat.{ℕ, ◌≤◌, ◌<◌}
use native.Mathlib.Omega.{arith}
use lib.Dec.{ltb}
use lib.ListN.{length, take}
use lib.Seq.{length-sets}
use borrow.Author.Tests.{lt-ltb, le-ltb}
use Rattle.theory.proofs.Cases.{by_cases, below_or_not}
use Rattle.lines.specs.Lines.{refused_line}
use Rattle.text.specs.Program.{run_text, screen, screen_text, numbers_text, form_text, printed}
use Rattle.lines.specs.Reading.{most_bytes, given, codes}
use Rattle.text.specs.Run.{most_text, Printed}
use Rattle.text.specs.Taking.{taken_in, taken_of, TakenUp}
use Rattle.words.specs.Writing.{Wrote}
use Rattle.text.specs.declared.screening.BadText.{BadText}
use Rattle.text.specs.declared.taking.Layout.{Layout}
use Rattle.std.specs.Prelude.{Result, Ok, Err, Option, Some, None}
use Rattle.text.proofs.TakingLaws.{ReadyText}

-- what is printed of a text that is taken up
unfoldable taken_text : List ℕ → Result Layout BadText → List ℕ
taken_text ns (Err why) = refused_line why.number why.place
taken_text ns (Ok layout) = run_text ns

screened_text : (ns : List ℕ) (s : Result ℕ BadText) → screen_text ns s ≡ taken_text ns (taken_in ns s)
unfolding screen_text taken_in taken_text
screened_text ns (Err why) = refl
screened_text ns (Ok cells) = refl

module _ (input : List ℕ) where
  -- length first, then form: of a text that is too long no number is read
  of_given : printed input ≡ form_text (given input)
  unfolding printed form_text given
  of_given = by_cases (ltb most_bytes (length input)) (λ e. rw e refl) (λ e. rw e refl)

  taken_text_lem : printed input ≡ taken_text (codes (given input).numbers) (taken_of (given input))
  unfolding form_text numbers_text taken_of taken_text
  taken_text_lem =
      let ns = codes (given input).numbers in
      of_given ∙ by_cases (given input).whole (λ e. rw e (screened_text ns (screen ns))) (λ e. rw e refl)

  module _ (before after : List ℕ) (t : Result Layout BadText) (up : TakenUp input before after t) where
    pub text_refused : (why : BadText) → t ≡ Err why → printed input ≡ refused_line why.number why.place
    unfolding taken_text
    text_refused why e = taken_text_lem ∙ ap (taken_text (codes (given input).numbers)) (sym up.answer ∙ e)

    pub text_runs : (layout : Layout) → t ≡ Ok layout → ReadyText input after layout → printed input ≡ run_text (take layout.numbers after)
    unfolding taken_text
    text_runs layout e ready = taken_text_lem ∙ ap (taken_text (codes (given input).numbers)) (sym up.answer ∙ e) ∙ ap run_text (sym ready.same)

  pub no_room : (before : List ℕ) → length before < most_text → Printed input before before None
  no_room before h =
      record {
        answer = rw (lt-ltb (length before) most_text h) refl;
        buffer = rw (lt-ltb (length before) most_text h) refl;
        short = λ room. absurd (omega arith);
      }

  pub with_room :
      (before after : List ℕ) (next : ℕ) → most_text ≤ length before → Wrote most_text 0 (printed input) before after next
      → Printed input before after (Some next)
  with_room before after next h w =
      let count : next ≡ length (printed input) = omega (arith, w.put.end, w.short) in
      record {
        answer = rw (le-ltb (length before) most_text h) (ap Some count);
        buffer = rw (le-ltb (length before) most_text h) w.put.buffer;
        short = λ room. w.short;
      }

  -- the count that is answered lies within the buffer
  pub text_within : {before after : List ℕ} {r : Option ℕ} (n : ℕ) → Printed input before after r → r ≡ Some n → n ≤ length after
  text_within {before} {after} n p e =
      below_or_not (length before) most_text
      (λ h.
      let none : None ≡ Some n = sym (rw (lt-ltb (length before) most_text h) at p.answer) ∙ e in
      absurd (let z : ◌≡◌ {A = ℕ} 0 1 = cc in omega arith))
      (λ h.
      let bytes : Some (length (printed input)) ≡ Some n = sym (rw (le-ltb (length before) most_text h) at p.answer) ∙ e in
      let count : n ≡ length (printed input) = cc in
      let long = ap length (rw (le-ltb (length before) most_text h) at p.buffer) ∙ length-sets before 0 (printed input) in
      omega (arith, p.short h))
