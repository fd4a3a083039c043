-- A day's totals as seven numbers, in the order of a line of the office's program.
use Rattle.std.specs.Prelude.{List, [], ◌∷◌, ◌++◌, ℕ, zero, suc, ◌+◌, ◌*◌, get_or}
use Rattle.paper.specs.Day.{Totals}

abbrev pub seven : Totals → List ℕ
seven t =
    t.gross
    ∷ t.intercepted
    ∷ t.evapotranspired
    ∷ t.recharged
    ∷ t.rejected
    ∷ t.gone
    ∷ t.stored
    ∷ []

-- those of the first k days, one day after another
unfoldable pub ledger : (ℕ → Totals) → ℕ → List ℕ
ledger totals zero = []
ledger totals (suc k) = ledger totals k ++ seven (totals k)

-- the totals of day k; past the list stand zeros
unfoldable pub totals_in : List ℕ → ℕ → Totals
totals_in ns k =
    record {
      gross = get_or ns (7 * k) 0;
      intercepted = get_or ns (7 * k + 1) 0;
      evapotranspired = get_or ns (7 * k + 2) 0;
      recharged = get_or ns (7 * k + 3) 0;
      rejected = get_or ns (7 * k + 4) 0;
      gone = get_or ns (7 * k + 5) 0;
      stored = get_or ns (7 * k + 6) 0;
    }
