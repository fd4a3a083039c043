-- An explanation as C gets it: what the call returns, and what it writes.
use Rattle.std.specs.Prelude.{List, [], ◌∷◌, ℕ}
use Rattle.paper.specs.Reasons.{Explanation}
use Rattle.reasons.specs.Whys.{why_number, first_depth, second_depth, why_verdict}
use Rattle.clib.specs.Numbers.{returned}

pub record Explained : Type 0 where
  pub number : ℕ
  pub reason : List ℕ

abbrev pub explained : ℕ → List ℕ → Explained
explained number reason = record { number = number; reason = reason }

-- the reason's number and its two depths; zeros for a refusal
unfoldable pub reason_list : Explanation → List ℕ
reason_list e = why_number e ∷ first_depth e ∷ second_depth e ∷ []

-- a refusal is returned as by any call
unfoldable pub reason_given : Explanation → Explained
reason_given e = explained (returned (why_verdict e)) (reason_list e)
