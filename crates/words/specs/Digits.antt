-- Numbers and texts as bytes: 48 is the digit 0.
use Rattle.std.specs.Prelude.{cond, List, [], ◌∷◌, ◌++◌, ℕ, zero, suc, ◌+◌, ◌/◌, ◌%◌, ltb, ℤ, pos, negsuc}
use Prim.Native.String.{String, [] as none, ◌∷◌ as ◌then◌}
use Prim.Native.Char.{code}

-- the last digit after the others, which are those of the tenth part; `most` bounds their count
unfoldable pub digits_within : ℕ → ℕ → List ℕ
digits_within zero n = (48 + n) ∷ []
digits_within (suc most) n = cond (ltb n 10) ((48 + n) ∷ []) (digits_within most (n / 10) ++ ((48 + n % 10) ∷ []))

unfoldable pub digits : ℕ → List ℕ
digits n = digits_within n n

-- a whole number as it is written: a minus, 45, before one below zero
unfoldable pub written : ℤ → List ℕ
written (pos n) = digits n
written (negsuc m) = 45 ∷ digits (suc m)

-- a text's bytes, one for each of its characters
unfoldable pub bytes : String → List ℕ
bytes none = []
bytes (c then s) = code c ∷ bytes s
