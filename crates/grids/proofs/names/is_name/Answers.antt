-- `names::is_name` meets its contract: from the loop's place on they are the same exactly if they are from the first.
use Rattle.std.proofs.Common.{sym, ◌∙◌, ◌≤◌, ◌<◌, length}
use Rattle.grids.specs.Headers.{lowered}
use Rattle.grids.proofs.NameLaws.{lowered_length, lowered_at, other_length, same_next, same_stop, same_end}
use Rattle.grids.proofs.names.is_name.Goals as goal

pub returns-then-word-name : goal.returns-then-word-name
returns-then-word-name c = sym (other_length _ _ (λ e. c.if-word-name.true (sym (lowered_length _) ∙ e)))

pub returns-then-lower-name : goal.returns-then-lower-name
returns-then-lower-name c =
    let a = c.args in
    let word = a.word.now in
    let i = c.loop-i.i in
    let inside : i < length (lowered word) = rw (lowered_length word) c.loop-i-test.true in
    sym
    (c.loop-i.invariant.1
    ∙ same_stop (lowered word) a.name.now i (lowered_length word ∙ c.loop-i.invariant.0) inside
    (λ e. c.if-lower-name.true (c.lower.ensures ∙ sym (lowered_at word i) ∙ e)))

pub loop-i-preserved : goal.loop-i-preserved
loop-i-preserved c =
    let a = c.args in
    let word = a.word.now in
    let i = c.loop-i.i in
    let inside : i < length (lowered word) = rw (lowered_length word) c.loop-i-test.true in
    let equal = lowered_at word i ∙ sym c.lower.ensures ∙ c.if-lower-name.false in
    (c.loop-i.invariant.0, c.loop-i.invariant.1 ∙ same_next (lowered word) a.name.now i (lowered_length word ∙ c.loop-i.invariant.0) inside equal)

pub returns : goal.returns
returns c =
    let a = c.args in
    let word = a.word.now in
    let past : length (lowered word) ≤ c.loop-i.i = rw (lowered_length word) c.loop-i-test.false in
    sym (c.loop-i.invariant.1 ∙ same_end (lowered word) a.name.now c.loop-i.i (lowered_length word ∙ c.loop-i.invariant.0) past)
