-- `fields::cells_from` meets its contract: five numbers stand before the table, and sixteen for each cover, of which 32 bits count no more than so many.
use Rattle.std.proofs.Common.{ap, ◌∙◌, ℕ, ◌+◌, ◌*◌, arith}
use Rattle.text.specs.Program.{cover_count, cells_from}
use Rattle.text.proofs.fields.cells_from.Goals as goal

pub returns : goal.returns
unfolding cells_from cover_count
returns c = (ap (λ (n : ℕ). 5 + 16 * n) (c.index_of.ensures ∙ c.number_at.ensures), omega arith)
