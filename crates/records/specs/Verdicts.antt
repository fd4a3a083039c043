-- The code's verdicts and refusals as the paper's, and back; the paper's number and place of each are `number_of` and `place_of`.
use Rattle.paper.specs.Refusals as paper
use Rattle.records.specs.declared.verdicts.Refusal.{Refusal}
use Rattle.records.specs.declared.verdicts.Refusal.TheVariants as refusals
use Rattle.std.specs.Prelude.{Result, Ok, Err}

abbrev pub refusal_as : Refusal → paper.Refusal
refusal_as refusals.Grid = paper.grid
refusal_as refusals.Lent = paper.lent
refusal_as (refusals.CoverTable e) = paper.cover_table e
refusal_as (refusals.CellNumbers i) = paper.cell_numbers i
refusal_as (refusals.Ring i) = paper.ring i
refusal_as refusals.Climate = paper.climate
refusal_as refusals.DayRecord = paper.day_record
refusal_as refusals.SerialGap = paper.serial_gap
refusal_as (refusals.StateAt i) = paper.state_at i
refusal_as (refusals.Snowfall i) = paper.snowfall i

abbrev pub refusal_in : paper.Refusal → Refusal
refusal_in paper.grid = refusals.Grid
refusal_in paper.lent = refusals.Lent
refusal_in (paper.cover_table e) = refusals.CoverTable e
refusal_in (paper.cell_numbers i) = refusals.CellNumbers i
refusal_in (paper.ring i) = refusals.Ring i
refusal_in paper.climate = refusals.Climate
refusal_in paper.day_record = refusals.DayRecord
refusal_in paper.serial_gap = refusals.SerialGap
refusal_in (paper.state_at i) = refusals.StateAt i
refusal_in (paper.snowfall i) = refusals.Snowfall i

-- what a call of the code answers: nothing where it accepts, else a refusal
abbrev pub Verdict : Type 0
Verdict = Result (Unit {0}) Refusal

abbrev pub verdict_as : Verdict → paper.Verdict
verdict_as (Ok done) = paper.accepted
verdict_as (Err why) = paper.refused (refusal_as why)

abbrev pub verdict_in : paper.Verdict → Verdict
verdict_in paper.accepted = Ok tt
verdict_in (paper.refused why) = Err (refusal_in why)
