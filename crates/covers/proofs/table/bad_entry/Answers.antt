-- `table::bad_entry` meets its contract: the entries that the search has passed all fit.
use Rattle.std.proofs.Common.{not, ap, sym, ◌∙◌, not-suc-le-zero, below_more, rules}
use Rattle.paper.specs.Covers.{entries}
use Rattle.records.proofs.PlaceLaws.{found_place, no_place}
use Rattle.covers.proofs.table.bad_entry.Goals as goal

pub loop-e-init : goal.loop-e-init
loop-e-init c = λ j h. absurd (not-suc-le-zero h)

pub returns-then-not-entry_fits : goal.returns-then-not-entry_fits
unfolding entries
returns-then-not-entry_fits c =
    found_place _ _ _ c.loop-e.invariant c.loop-e-test.true
    (ap not (sym c.entry_fits.ensures ∙ c.if-not-entry_fits.true))

pub loop-e-preserved : goal.loop-e-preserved
loop-e-preserved c = below_more _ _ c.loop-e.invariant (ap not (sym c.entry_fits.ensures ∙ c.if-not-entry_fits.false))

pub returns : goal.returns
unfolding entries
returns c = no_place _ _ _ c.loop-e.invariant c.loop-e-test.false
