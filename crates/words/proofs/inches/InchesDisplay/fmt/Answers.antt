-- `Inches` is printed as its depth is told: the whole inches, the point, and what is left over in four places.
use Prim.Native.Nat.{◌/◌, ◌%◌}
use mathlib.Core.Path.{◌≡◌, sym, subst}
use mathlib.Core.List.{◌∷◌, ◌++◌}
use native.Mathlib.Omega.{arith}
use Rattle.std.specs.Prelude.{Some}
use Rattle.std.specs.Fmt.{DisplaysOnOk, decimal, styled_decimal}
use Rattle.words.specs.Inches.{inches}
use Rattle.words.proofs.FormatLaws.{inches_formatted}
use Rattle.words.proofs.inches.InchesDisplay.fmt.Goals as goal

pub returns-clause-writes : goal.returns-clause-writes
returns-clause-writes g c =
    let units = c.args.self.now.0 in
    let told =
    subst (λ spec. decimal (units / 10000) ++ 46 ∷ styled_decimal spec (units % 10000) ≡ inches units) (sym c.laid_out.ensures)
    (inches_formatted units (omega arith)) in
    subst (λ text. DisplaysOnOk g.W.Write.write_str_gives c.args.f.now c.write.result (Some text) c.write.new.self) told c.write.ensures.writes
