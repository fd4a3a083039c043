-- A run's text, day by day: what stands in the buffer, with the text of the days that are left written after it, is the whole text. Each day begins
-- with the state and the results that the day before left.
use mathlib.Core.Path.{◌≡◌, refl, sym, ap, ◌∙◌}
use mathlib.Core.List.{List, ◌∷◌, ◌++◌}
use Prim.Native.Nat.{ℕ, suc, ◌+◌, ◌*◌, ◌≤◌, ◌<◌}
use native.Mathlib.Numerals.{add-one}
use native.Mathlib.Omega.{arith}
use lib.ListN.{length, drop, length-append, drop_of_length-le}
use lib.Seq.{sets, drop-cons}
use Rattle.theory.specs.Lists.{made}
use Rattle.theory.proofs.ListLaws.{made_length, made_at, sets_append}
use Rattle.paper.specs.Day.{Results, Outcome, Totals, day_of, no_results}
use Rattle.paper.specs.Refusals.{Refusal, Verdict, accepted, refused}
use Rattle.paper.specs.Setup.{Setup}
use Rattle.paper.specs.State.{State, Day}
use Rattle.lines.specs.Lines.{day_line, end_line, refusal}
use Rattle.text.specs.Program.{day_count, day_at, day_text, days_text}
use Rattle.text.specs.Laying.{day_from}
use Rattle.text.specs.Taking.{layout_in}
use Rattle.text.specs.Run.{most_text, Coded}
use Rattle.lines.specs.Telling.{line_of, told_in, Tells}
use Rattle.words.specs.Writing.{Wrote}
use Rattle.lines.specs.Writing.{most_line, most_end}
use Rattle.std.proofs.Common.{Continue, Break}
use Rattle.std.specs.declared.ops.ControlFlow.{ControlFlow}
use Rattle.text.specs.declared.taking.Layout.{Layout}
use Rattle.records.proofs.FrontLaws.{parts, Room}
use Rattle.text.proofs.OneDayLaws.{coded_day}
use Rattle.words.proofs.WritingLaws.{wrote_length}

-- `rest`, written from `at` on, makes the whole text of the buffer
pub record Onward (whole before now : List ℕ) (at : ℕ) (rest : List ℕ) : Type 0 where
  pub stored : sets before 0 whole ≡ sets now at rest
  pub counted : length whole ≡ at + length rest

-- a place below the farthest is where the bytes end
exactly : {most at next : ℕ} {xs now after : List ℕ} → Wrote most at xs now after next → at + most ≤ most_text → next ≡ at + length xs
exactly w h = omega (arith, w.put.end, w.short)

onward_then :
    {whole before now after : List ℕ} {at most next : ℕ} (xs ys : List ℕ) → Onward whole before now at (xs ++ ys) → Wrote most at xs now after next
    → at + most ≤ most_text
    → Onward whole before after next ys
onward_then {now = now} {at = at} xs ys o w h =
    rw (exactly w h, w.put.buffer)
    (record { stored = o.stored ∙ sets_append xs ys now at; counted = o.counted ∙ omega (arith, length-append xs ys) })

onward_end :
    {whole before now after : List ℕ} {at most next : ℕ} {xs : List ℕ} → Onward whole before now at xs → Wrote most at xs now after next
    → at + most ≤ most_text
    → Wrote most_text 0 whole before after next
onward_end o w h =
    record {
      put = record { buffer = w.put.buffer ∙ sym o.stored; end = omega (arith, exactly w h, w.short, o.counted) };
      short = omega (arith, w.short, o.counted);
    }

-- where a run stands in its text before day k
pub record Underway (s : Setup) (st₀ : State) (r₀ : Results) (ds : List Day) (before now : List ℕ) (st : State) (r : Results) (at done k : ℕ) : Type 0 where
  pub counted : done ≡ k
  pub placed : at ≤ most_line * k
  pub long : length now ≡ length before
  pub text : Onward (days_text s st₀ r₀ 0 ds) before now at (days_text s st r k (drop k ds))

pub underway_first :
    (s : Setup) (st : State) (r₀ r : Results) (ds : List Day) (before : List ℕ) → r ≡ r₀ → Underway s st r₀ ds before before st r 0 0 0
underway_first s st r₀ r ds before e =
    record { counted = refl; placed = omega arith; long = refl; text = rw e (record { stored = refl; counted = omega arith }) }

few_days : (ns : List ℕ) → Coded ns → day_count ns ≤ 4681
unfolding day_count
few_days ns coded = omega (arith, coded.few)

-- the days of a layout are those of its numbers, and few
module _ (ns : List ℕ) (layout : Layout) (placed : layout ≡ layout_in ns) where
  pub day_count_lem : layout.days ≡ day_count ns
  unfolding layout_in
  day_count_lem = ap (λ (l : Layout). l.days) placed

  pub this_day : (d : Day) (k : ℕ) → Coded ns → d ≡ day_from ns layout.days_from k → d ≡ day_at ns k
  unfolding layout_in
  this_day d k coded e = e ∙ coded_day ns layout.days_from k coded (ap (λ (l : Layout). l.days_from) placed)

  pub count_few : Coded ns → layout.days ≤ 4681
  count_few coded = omega (arith, day_count_lem, few_days ns coded)

module _ (ns : List ℕ) (s : Setup) (st₀ : State) (r₀ : Results) (before now : List ℕ) (st : State) (r : Results) (at done k : ℕ) (coded : Coded ns) where
  abbrev days : List Day
  days = made (day_count ns) (day_at ns)

  module _ (u : Underway s st₀ r₀ days before now st r at done k) where
    pub all_told :
        (after : List ℕ) (next : ℕ) → day_count ns ≤ k → k ≤ day_count ns → Wrote most_end at (end_line done) now after next
        → Wrote most_text 0 (days_text s st₀ r₀ 0 days) before after next
    unfolding days_text
    all_told after next h h' w =
        onward_end
        (rw (drop_of_length-le days {i = k} (rw made_length h), ← u.counted) at u.text)
        w
        (omega (arith, u.placed, few_days ns coded))

    module _ (d : Day) (this : d ≡ day_at ns k) (more : k < day_count ns) where
      day_first : drop k days ≡ d ∷ drop (suc k) days
      day_first = drop-cons days k d (rw made_length more) ∙ ap (λ (x : Day). x ∷ drop (suc k) days) (made_at (day_count ns) (day_at ns) d k more ∙ sym this)

      last_text : (why : Refusal) → refused why ≡ (day_of s st r d).verdict → days_text s st r k (drop k days) ≡ refusal why
      unfolding days_text day_text
      last_text why ev = rw (day_first, ← ev) refl

      more_text :
          (o : Outcome) → o ≡ day_of s st r d → o.verdict ≡ accepted
          → days_text s st r k (drop k days) ≡ day_line d.serial o.totals ++ days_text s o.state o.results (suc k) (drop (suc k) days)
      unfolding days_text day_text
      more_text o e ev = rw (day_first, ← e, ev) refl

      pub told_last :
          (v : Verdict) (left : Results) (t : Totals) (st' : State) (after : List ℕ) (told : ControlFlow ℕ ℕ) (next : ℕ)
          → record { verdict = v; results = left; totals = t; state = st' } ≡ day_of s st r d
          → Tells at d.serial t v now after told → told ≡ Break next
          → Wrote most_text 0 (days_text s st₀ r₀ 0 days) before after next
      unfolding line_of told_in
      told_last accepted left t st' after told next e w is = absurd (let result = w.result in let z : ◌≡◌ {A = ℕ} 0 1 = cc in omega arith)
      told_last (refused why) left t st' after told next e w is =
          let result = w.result in
          let same : w.next ≡ next = cc in
          onward_end (rw (last_text why (ap (λ (o : Outcome). o.verdict) e)) at u.text) (rw same at w.line)
          (omega (arith, u.placed, few_days ns coded))

      pub told_more :
          (v : Verdict) (left held : Results) (t : Totals) (st' : State) (after : List ℕ) (told : ControlFlow ℕ ℕ) (next : ℕ) → held ≡ left
          → record { verdict = v; results = left; totals = t; state = st' } ≡ day_of s st r d
          → Tells at d.serial t v now after told → told ≡ Continue next
          → Underway s st₀ r₀ days before after st' held next (done + 1) (k + 1)
      unfolding line_of told_in
      told_more accepted left held t st' after told next same e w is =
          let result = w.result in
          let same_next : w.next ≡ next = cc in
          let line : Wrote most_line at (day_line d.serial t) now after next = rw same_next at w.line in
          let room : at + most_line ≤ most_text = omega (arith, u.placed, few_days ns coded) in
          record {
            counted = ap (λ (i : ℕ). i + 1) u.counted;
            placed = omega (arith, exactly line room, line.short, u.placed);
            long = wrote_length line ∙ u.long;
            text =
                rw (add-one k, same)
                (onward_then (day_line d.serial t) (days_text s st' left (suc k) (drop (suc k) days)) (rw (more_text _ e refl) at u.text) line room);
          }
      told_more (refused why) left held t st' after told next same e w is = absurd (let result = w.result in let z : ◌≡◌ {A = ℕ} 0 1 = cc in omega arith)

-- the loop over the days before day k: the stores and the lent arrays are as long as they were, and the run is underway
pub record Running (n : ℕ) (s : Setup) (st₀ : State) (ds : List Day) (before now : List ℕ) (st : State) (i o e r j : List ℕ) (at done k : ℕ) : Type 0 where
  pub soils : length st.soil ≡ length st₀.soil
  pub snows : length st.snow ≡ length st₀.snow
  pub room : Room n i o e r j
  pub underway : Underway s st₀ (no_results n) ds before now st (parts n i o e r j) at done k
