-- Days out of a list of whole numbers, seven for each.
use Rattle.std.specs.Prelude.{List, [], ◌∷◌, ℕ, ◌+◌, ◌*◌, ℤ, pos, negsuc, get_or}
use Rattle.paper.specs.State.{Day}

-- a number below zero stands for one past every limit
unfoldable pub unsigned : ℤ → ℕ
unsigned (pos n) = n
unsigned (negsuc n) = 4294967295

-- the seven numbers of day k; past the list stands `none`
abbrev pub seven_in : {A : Type 0} → List A → ℕ → A → List A
seven_in ns k none =
    get_or ns (7 * k) none
    ∷ get_or ns (7 * k + 1) none
    ∷ get_or ns (7 * k + 2) none
    ∷ get_or ns (7 * k + 3) none
    ∷ get_or ns (7 * k + 4) none
    ∷ get_or ns (7 * k + 5) none
    ∷ get_or ns (7 * k + 6) none
    ∷ []

-- day k; past the list stand zeros
unfoldable pub day_in : List ℤ → ℕ → Day
day_in ns k =
    record {
      serial = unsigned (get_or ns (7 * k) (pos 0));
      day_of_year = unsigned (get_or ns (7 * k + 1) (pos 0));
      gross = unsigned (get_or ns (7 * k + 2) (pos 0));
      minimum = get_or ns (7 * k + 3) (pos 0);
      mean = get_or ns (7 * k + 4) (pos 0);
      maximum = get_or ns (7 * k + 5) (pos 0);
      potential = unsigned (get_or ns (7 * k + 6) (pos 0));
    }
