-- What was read stands at the front of the buffer.
use Rattle.std.specs.Prelude.{List, ℕ, Result, IfOk, ◌≤◌, length}

abbrev pub Within : {E : Type 0} → Result ℕ E → List ℕ → Type 0
Within result bytes = IfOk result (λ count. count ≤ length bytes)
