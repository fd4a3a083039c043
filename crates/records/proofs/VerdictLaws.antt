-- The code's verdict and the paper's say the same, one to one: each reads back as itself, both ways.
use mathlib.Core.Path.{◌≡◌, refl, sym, ap, ◌∙◌}
use Prim.Native.Nat.{ℕ}
use native.Mathlib.Omega.{arith}
use Rattle.paper.specs.Refusals as paper
use Rattle.records.specs.Verdicts.{refusal_as, refusal_in, verdict_as, verdict_in}
use Rattle.records.specs.declared.verdicts.Refusal.{Refusal}
use Rattle.records.specs.declared.verdicts.Refusal.TheVariants as refusals
use Rattle.std.specs.Prelude.{Result, Ok, Err}

refusal_back : (why : paper.Refusal) → refusal_as (refusal_in why) ≡ why
refusal_back paper.grid = refl
refusal_back paper.lent = refl
refusal_back (paper.cover_table e) = refl
refusal_back (paper.cell_numbers i) = refl
refusal_back (paper.ring i) = refl
refusal_back paper.climate = refl
refusal_back paper.day_record = refl
refusal_back paper.serial_gap = refl
refusal_back (paper.state_at i) = refl
refusal_back (paper.snowfall i) = refl

pub refusal_forth : (why : Refusal) → refusal_in (refusal_as why) ≡ why
refusal_forth refusals.Grid = refl
refusal_forth refusals.Lent = refl
refusal_forth (refusals.CoverTable e) = refl
refusal_forth (refusals.CellNumbers i) = refl
refusal_forth (refusals.Ring i) = refl
refusal_forth refusals.Climate = refl
refusal_forth refusals.DayRecord = refl
refusal_forth refusals.SerialGap = refl
refusal_forth (refusals.StateAt i) = refl
refusal_forth (refusals.Snowfall i) = refl

pub verdict_back : (v : paper.Verdict) → verdict_as (verdict_in v) ≡ v
verdict_back paper.accepted = refl
verdict_back (paper.refused why) = ap paper.refused (refusal_back why)

pub verdict_forth : (v : Result (Unit {0}) Refusal) → verdict_in (verdict_as v) ≡ v
verdict_forth (Ok done) = refl
verdict_forth (Err why) = ap Err (refusal_forth why)

-- a refusal is no acceptance
pub refused_not : (v : Result (Unit {0}) Refusal) (why : Refusal) → v ≡ Err why → v ≡ Ok tt → ⊥
refused_not v why e f = absurd (let z : ◌≡◌ {A = ℕ} 0 1 = cc in omega arith)

pub accepted_back : (v : paper.Verdict) → Ok tt ≡ verdict_in v → v ≡ paper.accepted
accepted_back v e = sym (verdict_back v) ∙ ap verdict_as (sym e)
