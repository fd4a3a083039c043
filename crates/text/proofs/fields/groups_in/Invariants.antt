use Rattle.std.proofs.Common.{◌≡◌, ◌+◌, ◌*◌, ◌-◌, ◌≤◌, get_or, replicate}
use Rattle.theory.specs.Lists.{made_over}
use Rattle.text.specs.Program.{group_given, cells_from}
use Rattle.text.proofs.fields.groups_in.Given as goal

abbrev pub invariant-loop-i : goal.invariant-loop-i
invariant-loop-i l =
    l.cells ≡ made_over l.i (λ j. group_given (get_or l.numbers (cells_from l.numbers + 4 * j) 0) (get_or l.numbers (cells_from l.numbers + 4 * j + 2) 0)) (replicate 4096 0)
