use Rattle.std.proofs.Common.{◌≡◌, ◌+◌, ◌*◌, ◌-◌, ◌≤◌, get_or, replicate}
use Rattle.theory.specs.Lists.{made_over}
use Rattle.text.specs.Program.{cells_from}
use Rattle.text.proofs.fields.column.Given as goal

abbrev pub invariant-loop-i : goal.invariant-loop-i
invariant-loop-i l =
    l.cells ≡ made_over l.i (λ j. get_or l.numbers (cells_from l.numbers + 4 * j + l.which) 0) (replicate 4096 0)
