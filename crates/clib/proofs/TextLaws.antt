-- A written text's count of bytes for C: none is 0.
use mathlib.Core.Bool.{Bool, true, false, cond}
use mathlib.Core.List.{List}
use mathlib.Core.Path.{◌≡◌, refl, ap, ◌∙◌}
use Prim.Native.Nat.{ℕ}
use lib.Dec.{ltb}
use lib.ListN.{length}
use Rattle.text.specs.Program.{printed}
use Rattle.text.specs.Run.{Printed, most_text}
use Rattle.std.specs.Prelude.{Option, Some, None, unwrap_or}
use Rattle.clib.specs.Texts.{Told}

either : (b : Bool) (n : ℕ) → unwrap_or (cond b None (Some n)) 0 ≡ cond b 0 n
either true n = refl
either false n = refl

pub told : (input before after : List ℕ) (w : Option ℕ) (r : ℕ) → r ≡ unwrap_or w 0 → Printed input before after w → Told input before after r
told input before after w r e p = record { count = e ∙ ap (λ (o : Option ℕ). unwrap_or o 0) p.answer ∙ either (ltb (length before) most_text) (length (printed input)); buffer = p.buffer; short = p.short }
