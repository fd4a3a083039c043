-- `cells::slot` meets its contract: each way out is a case of the paper's test 4.
use Rattle.std.proofs.Common.{◌≡◌, sym, ◌∙◌, arith, get_or, rules}
use Rattle.survey.proofs.SlotLaws.{group_in, slot_none, slot_past, slot_bad, slot_good}
use Rattle.survey.proofs.cells.slot.Goals.{After-small_index-entry}
use Rattle.survey.proofs.cells.slot.Goals as goal

pub returns-then-at-ge-CODES : goal.returns-then-at-ge-CODES
returns-then-at-ge-CODES c = (slot_past _ _ _ _ c.requires (rw c.index_of-at.ensures at c.if-at-ge-CODES.true), search rules)

-- the entry of the index at the cell's code
entry_is : (c : goal.After-small_index-entry)
    → c.small_index-entry.result ≡ get_or c.args.index.now c.args.code 0
entry_is c = rw c.index_of-at.ensures at c.small_index-entry.ensures.0

pub returns-then-entry-eq0 : goal.returns-then-entry-eq0
returns-then-entry-eq0 c = (slot_none _ _ _ _ (sym (entry_is (goal.at.returns-then-entry-eq0 c).After-small_index-entry) ∙ c.if-entry-eq0.true), search rules)

pub returns-then-not-group-available : goal.returns-then-not-group-available
returns-then-not-group-available c = (slot_bad _ _ _ _ (c.if-not-group-available.true), search rules)

pub overflow_sub-result-2 : goal.overflow_sub-result-2
overflow_sub-result-2 c =
    let a = c.args in
    omega (arith, c.index_of.ensures, group_in a.group a.available (c.if-not-group-available.false))

pub returns : goal.returns
returns c =
    let fits = c.if-not-group-available.false in
    let entry = entry_is (goal.at.returns c).After-small_index-entry in (
      rw (entry, c.index_of.ensures) (slot_good _ _ _ _ (λ e. c.if-entry-eq0.false (entry ∙ e)) fits),
      omega (arith, entry, c.index_of.ensures, group_in c.args.group c.args.available fits, c.requires.few c.args.code),
    )
