-- The program's text for C: its count of bytes, 0 where the buffer is shorter than the longest text, which then stays as it was; else the text fits.
use Rattle.std.specs.Prelude.{cond, List, ◌≡◌, ℕ, ◌≤◌, ltb, length}
use Rattle.std.proofs.lemmas.List.Edits.{sets}
use Rattle.text.specs.Program.{printed}
use Rattle.text.specs.Run.{most_text}

pub record Told (input before after : List ℕ) (r : ℕ) : Type 0 where
  pub count : r ≡ cond (ltb (length before) most_text) 0 (length (printed input))
  pub buffer : after ≡ cond (ltb (length before) most_text) before (sets before 0 (printed input))
  pub short : most_text ≤ length before → length (printed input) ≤ most_text
