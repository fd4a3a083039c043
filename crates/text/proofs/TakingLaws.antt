-- A text taken up: what is read and tested decides the answer, and numbers that are ready have what a run asks for.
use mathlib.Core.Path.{◌≡◌, refl, sym, ap, ◌∙◌}
use mathlib.Core.Bool.{Bool, true, false}
use mathlib.Core.List.{List}
use Prim.Native.Nat.{ℕ, ◌+◌, ◌*◌, ◌-◌, ◌/◌, ◌≤◌}
use native.Mathlib.Omega.{arith}
use lib.ListN.{length, take}
use lib.Seq.{length-sets}
use Rattle.std.specs.Prelude.{Result, Ok, Err}
use Rattle.theory.proofs.Cases.{by_cases}
use Rattle.lines.specs.Reading.{Reading, given, codes, most_numbers, form_in, Read}
use Rattle.lines.specs.declared.reading.BadForm.{BadForm}
use Rattle.lines.proofs.ReadingLaws.{codes_length, front, codes_small}
use Rattle.text.specs.Program.{cells_from, days_from, day_count, screen, unfit}
use Rattle.text.specs.Taking.{layout_in, taken_in, taken_of, TakenUp}
use Rattle.text.specs.Run.{Coded, Complete}
use Rattle.text.specs.declared.screening.BadText.{BadText}
use Rattle.text.specs.declared.taking.Layout.{Layout}
use Rattle.text.proofs.ScreenLaws.{ready}

-- by the answer of the tests
module _ (ns : List ℕ) where
  pub taken_refused : (why : BadText) → screen ns ≡ Err why → Err why ≡ taken_in ns (screen ns)
  unfolding taken_in
  taken_refused why e = rw e refl

  module _ (cells : ℕ) (e : screen ns ≡ Ok cells) (from : ℕ) (start : from ≡ cells_from ns) where
    pub days_start : from + 4 * cells ≡ days_from ns
    unfolding days_from
    days_start = rw (start, (ready ns cells e).0) refl

    pub days_inside : from + 4 * cells ≤ length ns
    days_inside = omega (arith, days_start, (ready ns cells e).1.numbers)

    pub days_small : 4 * cells ≤ 16384
    days_small = omega (arith, (ready ns cells e).0, (ready ns cells e).1.cells)

    pub taken_ready :
        Ok (record { numbers = length ns; cells = cells; cells_from = from; days_from = from + 4 * cells; days = (length ns - (from + 4 * cells)) / 7 })
        ≡ taken_in ns (screen ns)
    unfolding taken_in layout_in day_count
    taken_ready = rw (e, days_start, start, (ready ns cells e).0) refl

-- by what is read
module _ (input before after : List ℕ) (r : Result ℕ BadForm) (count : ℕ) (read : Read (given input) before after r) where
  of_form : (whole : Bool) (n : ℕ) → form_in whole n ≡ Ok count → (whole ≡ true) × (n ≡ count)
  unfolding form_in
  of_form true n e = (refl, (cc))
  of_form false n e = absurd (let z : ◌≡◌ {A = ℕ} 0 1 = cc in omega arith)

  of_fault : (whole : Bool) (n : ℕ) → form_in whole n ≡ Err (record { 0 = count }) → (whole ≡ false) × (n ≡ count)
  unfolding form_in
  of_fault true n e = absurd (let z : ◌≡◌ {A = ℕ} 0 1 = cc in omega arith)
  of_fault false n e =
      let same : ◌≡◌ {A = BadForm} (record { 0 = n }) (record { 0 = count }) = cc in
      (refl, ap (λ (b : BadForm). b.0) same)

  pub broken_taken : (place : ℕ) → r ≡ Err (record { 0 = count }) → place ≡ count → TakenUp input before after (unfit 11 place)
  unfolding taken_of
  broken_taken place e same =
      let f = of_fault (given input).whole (length (given input).numbers) (sym read.form ∙ e) in
      record { answer = rw f.0 (ap (unfit 11) (same ∙ sym f.1)); numbers = read.numbers; few = read.few }

  module _ (e : r ≡ Ok count) (long : length after ≡ most_numbers) where
    abbrev formed : ((given input).whole ≡ true) × (length (given input).numbers ≡ count)
    formed = of_form (given input).whole (length (given input).numbers) (sym read.form ∙ e)

    same : take count after ≡ codes (given input).numbers
    same =
        ap (λ (n : ℕ). take n after) (sym formed.1)
        ∙ front (given input) before after r (sym (ap length read.numbers ∙ length-sets before 0 (codes (given input).numbers)) ∙ long) read

    pub whole_counted : count ≡ length (take count after)
    whole_counted = sym (ap length same ∙ codes_length (given input).numbers ∙ formed.1)

    pub whole_taken : (t : Result Layout BadText) → t ≡ taken_in (take count after) (screen (take count after)) → TakenUp input before after t
    unfolding taken_of
    whole_taken t is =
        record {
          answer = is ∙ rw formed.0 (ap (λ (ns : List ℕ). taken_in ns (screen ns)) same);
          numbers = read.numbers;
          few = read.few;
        }

-- what a text that is ready has: its numbers at the front of the array, complete and coded
pub record ReadyText (input after : List ℕ) (layout : Layout) : Type 0 where
  pub room : layout.numbers ≤ length after
  pub counted : layout.numbers ≡ length (take layout.numbers after)
  pub same : take layout.numbers after ≡ codes (given input).numbers
  pub complete : Complete (take layout.numbers after) layout
  pub coded : Coded (take layout.numbers after)

module _ (layout : Layout) where
  of_screened : (ns : List ℕ) (s : Result ℕ BadText) → screen ns ≡ s → taken_in ns s ≡ Ok layout → Complete ns layout
  unfolding taken_in
  of_screened ns (Err why) e is = absurd (let z : ◌≡◌ {A = ℕ} 0 1 = cc in omega arith)
  of_screened ns (Ok cells) e is = let same : layout_in ns ≡ layout = cc in rw same at (ready ns cells e).1

  of_reading : (r : Reading) → Ok layout ≡ taken_of r → Complete (codes r.numbers) layout
  unfolding taken_of
  of_reading r e =
      let ns = codes r.numbers in
      by_cases r.whole (λ whole. of_screened ns (screen ns) refl (sym (rw whole at e)))
      (λ broken. absurd (let fault = rw broken at e in let z : ◌≡◌ {A = ℕ} 0 1 = cc in omega arith))

  pub ready_text : (input before after : List ℕ) (t : Result Layout BadText) → length before ≡ most_numbers → TakenUp input before after t → t ≡ Ok layout → ReadyText input after layout
  unfolding layout_in
  ready_text input before after t long up e =
      let zs = (given input).numbers in
      let all = of_reading (given input) (sym e ∙ up.answer) in
      let count : layout.numbers ≡ length zs = ap (λ (l : Layout). l.numbers) all.placed ∙ codes_length zs in
      let size : length after ≡ most_numbers = ap length up.numbers ∙ length-sets before 0 (codes zs) ∙ long in
      let same : take layout.numbers after ≡ codes zs = ap (λ (n : ℕ). take n after) count ∙ front (given input) before after _ long (record { form = refl; numbers = up.numbers; few = up.few }) in
      record {
        room = omega (arith, up.few);
        counted = count ∙ sym (ap length same ∙ codes_length zs);
        same = same;
        complete = rw same all;
        coded = rw same (record { few = omega (arith, codes_length zs, up.few); small = codes_small input });
      }
