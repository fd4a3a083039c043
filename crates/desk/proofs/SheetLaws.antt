-- Two texts of a header are compared byte by byte, and grids one after another: the first that is refused or differs counts.
use mathlib.Core.List.{List, [], ◌∷◌}
use mathlib.Core.Path.{◌≡◌, refl, sym}
use Prim.Native.Nat.{ℕ}
use lib.Dec.{eqb}
use lib.Pointwise.{pointwise}
use Rattle.grids.specs.Headers.{same}
use Rattle.grids.specs.Given.{header_as}
use Rattle.grids.specs.declared.headers.Header.{Header}
use Rattle.desk.specs.declared.faults.GridFile.{GridFile}
use Rattle.desk.specs.Faults.{Tested}
use Rattle.desk.specs.Sheets.{test_match}

pub same_pointwise : (xs ys : List ℕ) → pointwise eqb xs ys ≡ same xs ys
unfolding same
same_pointwise [] [] = refl
same_pointwise [] (y ∷ ys) = refl
same_pointwise (x ∷ xs) [] = refl
same_pointwise (x ∷ xs) (y ∷ ys) = rw (same_pointwise xs ys) refl

-- a grid compared with the first, by the headers that their reads tell
pub matched :
    {h h' first first' : Header} {t : Tested} (file : GridFile) → h ≡ h' → first ≡ first' → t ≡ test_match file (header_as h) (header_as first)
    → test_match file (header_as h') (header_as first') ≡ t
matched file eh ef e = sym (rw (eh, ef) at e)
