-- A grid's cells: the words after the header, and which of them are refused.
use Rattle.std.specs.Prelude.{Bool, true, cond, not, ◌&&◌, List, [], ◌∷◌, ℕ, suc, ◌*◌, eqb, ℤ, pos, negsuc, drop}
use Rattle.std.specs.Int.Signed.{le_z}
use Rattle.words.specs.Numbers.{number}
use Rattle.grids.specs.Headers.{whole_of, whole_fits, header_words}

unfoldable pub wholes : List (List ℕ) → List ℤ
wholes [] = []
wholes (w ∷ ws) = whole_of (number w) ∷ wholes ws

-- every word after the header is a cell, in order
unfoldable pub cells_in : List (List ℕ) → List ℤ
cells_in ws = wholes (drop header_words ws)

-- equal in value
unfoldable pub is_same : ℤ → ℤ → Bool
is_same a b = le_z a b && le_z b a

-- a number, and not the no-data number
unfoldable pub cell_fits : ℤ → ℤ → Bool
cell_fits no_data z = whole_fits z && not (is_same z no_data)

-- a depth in units of 0.0001 inch, and not the no-data number in inches
unfoldable pub depth_fits : ℤ → ℕ → Bool
depth_fits (pos n) units = not (eqb units (10000 * n))
depth_fits (negsuc m) units = true

-- how many stand before the first that does not pass; all, where each does
unfoldable pub passing : {A : Type 0} → (A → Bool) → List A → ℕ
passing test [] = 0
passing test (x ∷ xs) = cond (test x) (suc (passing test xs)) 0

-- with one more cell after `count`, of which `passing` stand before the first that does not pass
unfoldable pub passing_with : ℕ → ℕ → Bool → ℕ
passing_with passing count fits = cond (eqb passing count && fits) (suc passing) passing
