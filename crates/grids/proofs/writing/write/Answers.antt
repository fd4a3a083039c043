-- `writing::write` meets its contract: the verdict is the paper's, and the form is written only where it accepts.
use Rattle.std.proofs.Common.{◌++◌, ◌≡◌, sym, ap, ◌∙◌, ◌<◌, arith, rules, leb, ℤ, length, Err}
use native.Mathlib.Nat.{mul-le-mul_right}
use Rattle.grids.specs.Cells.{passing}
use Rattle.grids.specs.Forms.{form_verdict}
use Rattle.grids.specs.Judging.{judged}
use Rattle.grids.specs.Given.{header_as}
use Rattle.grids.proofs.WholeLaws.{read, whole}
use Rattle.grids.proofs.CellLaws.{passing_counted}
use Rattle.grids.proofs.AnswerLaws.{into_nothing, form_judged, room_enough, writes_yes, writes_no}
use Rattle.grids.proofs.writing.write.Given as given
use Rattle.grids.proofs.writing.write.Goals.{After-judged}
use Rattle.grids.proofs.writing.write.Goals as goal

module _ (g : given.Over) (c : goal.After-judged g) where
  text_same : c.put_form-end.new.buffer ++ c.args.text.now ≡ c.args.text.now
  text_same = ap (λ l. l ++ c.args.text.now) (into_nothing c.put_form-end.ensures)

  says :
      judged (header_as c.args.header) c.passing-passing.result (length c.args.cells.now) (leb c.put_form-end.result (length (c.put_form-end.new.buffer ++ c.args.text.now)))
      ≡ form_verdict g.C.Cell.passes g.C.Cell.form (header_as c.args.header) c.args.cells.now (length c.args.text.now)
  says =
      let a = c.args in
      let h = header_as a.header in
      let few = mul-le-mul_right (length a.cells.now) g.met.C.Cell.short in
      ap (λ p. judged h p (length a.cells.now) (leb c.put_form-end.result (length (c.put_form-end.new.buffer ++ a.text.now))))
      (c.passing-passing.ensures
      ∙ passing_counted (g.C.Cell.passes (read a.header.no_data)) a.cells.now
      ∙ ap (λ (z : ℤ). passing (g.C.Cell.passes z) a.cells.now) (whole _ (record { sfits = omega arith })))
      ∙ form_judged h _ (length a.cells.now) a.text.now c.put_form-end.ensures (omega (arith, c.put_form-end.ensures.short, few))

pub returns-in_err-judged : goal.returns-in_err-judged
returns-in_err-judged g c =
    let s = (goal.at.returns-in_err-judged g c).After-judged in
    let bad = c.in_err-judged.field-0.0 in
    let same : c.from_residual.result ≡ Err bad = search rules in
    rw same (writes_no _ _ _ _ bad (sym (c.in_err-judged.ensures ∙ says g s)) (text_same g s))

pub returns : goal.returns
returns g c =
    let s = (goal.at.returns g c).After-judged in
    let yes = sym (c.in_ok-judged.ensures ∙ says g s) in
    let long : length c.args.text.now < 18446744073709551616 = omega arith in
    writes_yes _ _ _ _ yes (room_enough _ _ _ _ _ yes) (omega (arith, long)) (rw (text_same g s) at c.put_form.ensures)
