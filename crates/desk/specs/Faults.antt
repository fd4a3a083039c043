-- Tests one after another: the first that fails counts, with what it finds wrong.
use Rattle.std.specs.Prelude.{Bool, true, false, ℕ, Result, Ok, Err}
use Rattle.grids.specs.declared.headers.Header.{Header}
use Rattle.desk.specs.declared.faults.Fault.{Fault}

abbrev pub Tested : Type 0
Tested = Result (Unit {0}) Fault

infixl 20 ◌then◌
unfoldable pub ◌then◌ : Tested → Tested → Tested
◌then◌ (Ok done) later = later
◌then◌ (Err fault) later = Err fault

unfoldable pub unless : Bool → Fault → Tested
unless true fault = Ok tt
unless false fault = Err fault

-- what is answered: a text of so many bytes, or what is wrong
unfoldable pub answer_of : Tested → ℕ → Result ℕ Fault
answer_of (Ok done) count = Ok count
answer_of (Err fault) count = Err fault

-- a header with what is wrong besides
unfoldable pub headed : Tested → Header → Result Header Fault
headed (Ok done) h = Ok h
headed (Err fault) h = Err fault

-- what holds where nothing is wrong, and where something is
unfoldable pub on_passed : {A : Type 0} → Tested → A → A → A
on_passed (Ok done) x y = x
on_passed (Err fault) x y = y
