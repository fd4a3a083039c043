-- `table::index_codes` meets its contract: the index holds the entries passed so far, and no later one has the code of an earlier.
use Rattle.std.proofs.Common.{add-one, ◌/◌, ◌<◌, ◌≡◌, ap, ◌∙◌, arith, rules, length}
use Rattle.paper.specs.Covers.{entries, code_of}
use Rattle.covers.specs.Table.{index_of}
use Rattle.covers.proofs.TableLaws.{index_none, index_more, code_limit, count_limit}
use Rattle.covers.proofs.table.index_codes.Goals.{After-index_of-code}
use Rattle.covers.proofs.table.index_codes.Goals as goal

pub loop-e-init : goal.loop-e-init
loop-e-init c = index_none _ c.requires.0 _ c.requires.1

pub overflow_cast-index : goal.overflow_cast-index
unfolding entries
overflow_cast-index c = omega (arith, count_limit _ c.requires.0)

-- the code that is read is below 256
code_small : (c : goal.After-index_of-code) → code_of c.args.covers.now c.loop-e.e < 256
unfolding entries
code_small c = code_limit _ c.requires.0 _ c.loop-e-test.true

pub bounds-index-code : goal.bounds-index-code
bounds-index-code c = rw c.index_of-code.ensures (code_small (goal.at.bounds-index-code c).After-index_of-code)

pub loop-e-preserved : goal.loop-e-preserved
unfolding entries
loop-e-preserved c =
    rw (c.index_of-code.ensures, add-one c.loop-e.e, c.loop-e.invariant)
    (index_more _ c.requires.0 _ c.loop-e-test.true)

pub returns : goal.returns
unfolding entries
returns c =
    let e : c.loop-e.e ≡ length c.args.covers.now / 16 = omega arith in
    c.loop-e.invariant ∙ ap (index_of c.args.covers.now) e
