-- What the verdict says is what was written.
use mathlib.Core.Path.{◌≡◌, refl}
use mathlib.Core.List.{List}
use Prim.Native.Nat.{ℕ}
use native.Mathlib.Omega.{arith}
use Rattle.paper.specs.Day.{Totals}
use Rattle.paper.specs.Refusals.{Verdict, accepted, refused, Refusal}
use Rattle.lines.specs.Lines.{day_line, refusal}
use Rattle.lines.specs.Telling.{line_of, told_in, Tells}
use Rattle.words.specs.Writing.{Wrote}
use Rattle.lines.specs.Writing.{most_line, most_refusal}
use Rattle.std.proofs.Common.{Continue, Break}

-- a day's line, and its refusal, as they are told
pub tells_line :
    (v : Verdict) (t : Totals) (at serial : ℕ) (before after : List ℕ) (next : ℕ) → v ≡ accepted
    → Wrote most_line at (day_line serial t) before after next
    → Tells at serial t v before after (Continue next)
unfolding line_of told_in
tells_line v t at serial before after next e w = rw e (record { next = next; result = refl; line = w })

pub tells_refusal :
    (v : Verdict) (t : Totals) (at serial : ℕ) (why : Refusal) (before after : List ℕ) (next : ℕ) → v ≡ refused why
    → Wrote most_refusal at (refusal why) before after next
    → Tells at serial t v before after (Break next)
unfolding line_of told_in
tells_refusal v t at serial why before after next e w =
    rw e (record { next = next; result = refl; line = record { put = w.put; short = omega (arith, w.short) } })
