-- `table::read_covers` meets its contract: a table that fits has its index, and the array of one that is refused is not touched.
use Rattle.std.proofs.Common.{◌≡◌, sym, ◌∙◌, refl, true}
use Rattle.paper.specs.Covers.{size_fits}
use Rattle.paper.specs.Refusals.{cover_table}
use Rattle.records.proofs.PlaceLaws.{found_at, found_no}
use Rattle.covers.proofs.TableLaws.{size_bad, entry_bad, entries_fit, table_fits, refused_table, read_table}
use Rattle.covers.proofs.table.read_covers.Goals.{After-bad_entry-entry}
use Rattle.covers.proofs.table.read_covers.Goals as goal

pub returns-then-not-size_fits : goal.returns-then-not-size_fits
returns-then-not-size_fits c = refused_table _ _ (cover_table 0) (size_bad _ (sym c.size_fits.ensures ∙ c.if-not-size_fits.true))

pub returns-in-Some : goal.returns-in-Some
returns-in-Some c =
    refused_table _ _ (cover_table _)
    (entry_bad _ (sym c.size_fits.ensures ∙ c.if-not-size_fits.false) _
    (found_at _ _ (sym c.in-Some.is ∙ c.bad_entry-entry.ensures)))

-- the size fits, and no entry has a fault
size : (c : goal.After-bad_entry-entry) → size_fits c.args.covers.now ≡ true
size c = sym c.size_fits.ensures ∙ c.if-not-size_fits.false

pub index_codes-requires : goal.index_codes-requires
index_codes-requires c = (entries_fit _ (size (goal.at.index_codes-requires c).After-bad_entry-entry) (found_no _ (sym c.in_default.is ∙ c.bad_entry-entry.ensures)), refl)

pub returns : goal.returns
returns c = read_table _ _ _ (table_fits _ (size (goal.at.returns c).After-bad_entry-entry) (found_no _ (sym c.in_default.is ∙ c.bad_entry-entry.ensures))) c.index_codes.ensures
