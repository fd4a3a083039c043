-- What an explanation says is what was written: its reason's line with its figures, or its refusal.
use mathlib.Core.Path.{◌≡◌, refl}
use mathlib.Core.List.{List}
use Prim.Native.Nat.{ℕ, ◌≤◌}
use native.Mathlib.Omega.{arith}
use lib.ListN.{length}
use Rattle.words.specs.Writing.{farthest, Wrote}
use Rattle.paper.specs.CellDay.{Figures}
use Rattle.paper.specs.Refusals.{Refusal}
use Rattle.paper.specs.Reasons.{Reason, Explanation, because, by_refusal}
use Rattle.lines.specs.Lines.{refusal}
use Rattle.lines.specs.Writing.{most_refusal}
use Rattle.std.specs.declared.ops.ControlFlow.{ControlFlow}
use Rattle.std.proofs.Common.{Continue, Break}
use Rattle.words.proofs.WritingLaws.{wrote_then}
use Rattle.explained.specs.Lines.{reason_line, figures_line, why_lines, most_reason_line, most_figures_line, most_lines}
use Rattle.explained.specs.Telling.{told_in, reason_or_refusal, TellsReason, Tells, Inside}
use Rattle.explained.proofs.LineLaws.{wrote_within, wrote_inside}

module _ (serial : ℕ) (e : Explanation) (before after : List ℕ) (next : ℕ) where
  pub reason_told : (reason : Reason) (a b most : ℕ) → e ≡ because reason a b → most ≤ most_reason_line
      → Wrote most 0 (reason_line serial reason a b) before after next → TellsReason serial e before after (Continue next)
  unfolding told_in reason_or_refusal
  reason_told reason a b most is h w = rw is (record { next = next; result = refl; line = wrote_within w h })

  pub refusal_told : (why : Refusal) → e ≡ by_refusal why → Wrote most_refusal 0 (refusal why) before after next → TellsReason serial e before after (Break next)
  unfolding told_in reason_or_refusal
  refusal_told why is w = rw is (record { next = next; result = refl; line = wrote_within w (omega arith) })

-- an explanation that gives a reason
pub record Because (e : Explanation) : Type 0 where
  pub reason : Reason
  pub first : ℕ
  pub second : ℕ
  pub is : e ≡ because reason first second

-- and one that does not
pub record ByRefusal (e : Explanation) : Type 0 where
  pub why : Refusal
  pub is : e ≡ by_refusal why

module _ (serial : ℕ) (before between : List ℕ) (told : ControlFlow ℕ ℕ) (next : ℕ) where
  -- what was told, where the run goes on
  pub reason_given_lem : (e : Explanation) → TellsReason serial e before between told → told ≡ Continue next → Because e
  unfolding told_in
  reason_given_lem (because reason a b) t is = record { reason = reason; first = a; second = b; is = refl }
  reason_given_lem (by_refusal why) t is = absurd (let result = t.result in let z : ◌≡◌ {A = ℕ} 0 1 = cc in omega arith)

  pub lines_told : (e : Explanation) (figures : Figures) (after : List ℕ) (last : ℕ) → length before ≤ farthest → TellsReason serial e before between told
      → told ≡ Continue next → Wrote most_figures_line next (figures_line figures) between after last
      → Tells serial e figures before after (Continue last)
  unfolding told_in reason_or_refusal why_lines
  lines_told (because reason a b) figures after last long t is w =
      let result = t.result in
      let same : t.next ≡ next = cc in
      record { next = last; result = refl; lines = wrote_then long (rw same at t.line) w }
  lines_told (by_refusal why) figures after last long t is w = absurd (let result = t.result in let z : ◌≡◌ {A = ℕ} 0 1 = cc in omega arith)

  -- and where it ends
  pub reason_refused : (e : Explanation) → TellsReason serial e before between told → told ≡ Break next → ByRefusal e
  unfolding told_in
  reason_refused (because reason a b) t is = absurd (let result = t.result in let z : ◌≡◌ {A = ℕ} 0 1 = cc in omega arith)
  reason_refused (by_refusal why) t is = record { why = why; is = refl }

  pub last_told : (e : Explanation) (figures : Figures) → TellsReason serial e before between told → told ≡ Break next → Tells serial e figures before between told
  unfolding told_in reason_or_refusal why_lines
  last_told (because reason a b) figures t is = absurd (let result = t.result in let z : ◌≡◌ {A = ℕ} 0 1 = cc in omega arith)
  last_told (by_refusal why) figures t is = record { next = t.next; result = t.result; lines = wrote_within t.line (omega arith) }

-- with room for the longest lines, what was told lies within the buffer
pub tells_inside :
    (serial : ℕ) (e : Explanation) (figures : Figures) (before after : List ℕ) (told : ControlFlow ℕ ℕ) → Tells serial e figures before after told
    → most_lines ≤ length before → Inside told (length after)
unfolding told_in
tells_inside serial (because reason a b) figures before after told t h = rw t.result (wrote_inside t.lines h)
tells_inside serial (by_refusal why) figures before after told t h = rw t.result (wrote_inside t.lines h)
