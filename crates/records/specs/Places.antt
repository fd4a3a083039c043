-- The lowest place that fails, as the code says it.
use Rattle.theory.specs.Lowest.{Found, at, nowhere}
use Rattle.std.specs.Prelude.{ℕ, Option, Some, None}

unfoldable pub place_in : Found → Option ℕ
place_in (at i) = Some i
place_in nowhere = None
