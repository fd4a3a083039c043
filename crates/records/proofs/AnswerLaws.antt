-- Answers that say the same are one and the same: what is read of an answer as the paper says it holds all that the answer holds.
use mathlib.Core.Path.{◌≡◌, refl, sym, ap, ◌∙◌}
use mathlib.Core.List.{List}
use Prim.Native.Nat.{ℕ}
use native.Mathlib.Omega.{arith}
use Rattle.paper.specs.State as state
use Rattle.paper.specs.Day as paper
use Rattle.records.specs.Past.{last_as, past_as, state_as}
use Rattle.paper.specs.Refusals.{accepted, refused}
use Rattle.paper.specs.Refusals as paper-refusals
use Rattle.records.specs.Verdicts.{refusal_as, refusal_in}
use Rattle.records.specs.Answers.{answered, totals_told, fresh_as, outcome_as}
use Rattle.std.specs.Prelude.{Option, Some, None, Result, Ok, Err}
use Rattle.records.specs.declared.past.Past.{Past}
use Rattle.records.specs.declared.answers.Totals.{Totals}
use Rattle.records.specs.declared.verdicts.Refusal.{Refusal}
use Rattle.records.proofs.VerdictLaws.{refusal_forth}

last_in : state.Last → Option ℕ
last_in state.none = None
last_in (state.serial n) = Some n

last_forth : (l : Option ℕ) → last_in (last_as l) ≡ l
unfolding last_in
last_forth None = refl
last_forth (Some n) = refl

past_in : state.Past → Past
past_in p =
    record {
      memory =
          record {
            oldest = record { 0 = p.memory.oldest };
            fourth = record { 0 = p.memory.fourth };
            third = record { 0 = p.memory.third };
            second = record { 0 = p.memory.second };
            yesterday = record { 0 = p.memory.yesterday };
          };
      last = last_in p.last;
      frost = record { 0 = p.frost };
    }

past_forth : (p : Past) → past_in (past_as p) ≡ p
unfolding past_in
past_forth p = λ k. record { memory = p.memory; last = last_forth p.last k; frost = p.frost }

totals_in : paper.Totals → Totals
totals_in t =
    record {
      gross = record { 0 = t.gross };
      intercepted = record { 0 = t.intercepted };
      evapotranspired = record { 0 = t.evapotranspired };
      recharged = record { 0 = t.recharged };
      rejected = record { 0 = t.rejected };
      gone = record { 0 = t.gone };
      stored = record { 0 = t.stored };
    }

-- a day's outcome, field by field
abbrev pub told : Result Totals Refusal → List ℕ → List ℕ → Past → paper.Results → paper.Outcome
told r soil snow past results = record { verdict = answered r; results = results; totals = totals_told r; state = state_as soil snow past }

pub told_is : (r : Result Totals Refusal) (soil snow : List ℕ) (past : Past) (results : paper.Results) → told r soil snow past results ≡ outcome_as r soil snow past results
told_is (Ok totals) soil snow past results = refl
told_is (Err why) soil snow past results = refl

-- two refusals of the paper that are one, and what no acceptance says
same_refusal : (why w : Refusal) → refused (refusal_as why) ≡ refused (refusal_as w) → why ≡ w
same_refusal why w e =
    let same : refusal_as why ≡ refusal_as w = cc in
    sym (refusal_forth why) ∙ ap refusal_in same ∙ refusal_forth w

apart : (why : paper-refusals.Refusal) → accepted ≡ refused why → ⊥
apart why e = absurd (let z : ◌≡◌ {A = ℕ} 0 1 = cc in omega arith)

-- a day's answers, and the pasts that they leave, that say the same outcome of equal slices
pub answer_only :
    (a b : Result Totals Refusal) (p q : Past) (soil snow : List ℕ) (results : paper.Results) → outcome_as a soil snow p results ≡ outcome_as b soil snow q results
    → (a ≡ b) × (p ≡ q)
unfolding totals_in
answer_only a b p q soil snow results e = (same a b e, left a b e)
  where
    same : (a b : Result Totals Refusal) → outcome_as a soil snow p results ≡ outcome_as b soil snow q results → a ≡ b
    same (Ok t) (Ok u) e = ap Ok (ap (λ (o : paper.Outcome). totals_in o.totals) e)
    same (Ok t) (Err w) e = absurd (apart (refusal_as w) (ap (λ (o : paper.Outcome). o.verdict) e))
    same (Err why) (Ok u) e = absurd (apart (refusal_as why) (sym (ap (λ (o : paper.Outcome). o.verdict) e)))
    same (Err why) (Err w) e = ap Err (same_refusal why w (ap (λ (o : paper.Outcome). o.verdict) e))

    left : (a b : Result Totals Refusal) → outcome_as a soil snow p results ≡ outcome_as b soil snow q results → p ≡ q
    left (Ok t) (Ok u) e = sym (past_forth p) ∙ ap (λ (o : paper.Outcome). past_in o.state.past) e ∙ past_forth q
    left (Ok t) (Err w) e = sym (past_forth p) ∙ ap (λ (o : paper.Outcome). past_in o.state.past) e ∙ past_forth q
    left (Err why) (Ok u) e = sym (past_forth p) ∙ ap (λ (o : paper.Outcome). past_in o.state.past) e ∙ past_forth q
    left (Err why) (Err w) e = sym (past_forth p) ∙ ap (λ (o : paper.Outcome). past_in o.state.past) e ∙ past_forth q

-- and of a fresh state
pub start_only : (a b : Result Past Refusal) (soil snow : List ℕ) → fresh_as a soil snow ≡ fresh_as b soil snow → a ≡ b
start_only (Ok p) (Ok q) soil snow e = ap Ok (sym (past_forth p) ∙ ap (λ (f : paper.Fresh). past_in f.state.past) e ∙ past_forth q)
start_only (Ok p) (Err w) soil snow e = absurd (apart (refusal_as w) (ap (λ (f : paper.Fresh). f.verdict) e))
start_only (Err why) (Ok q) soil snow e = absurd (apart (refusal_as why) (sym (ap (λ (f : paper.Fresh). f.verdict) e)))
start_only (Err why) (Err w) soil snow e = ap Err (same_refusal why w (ap (λ (f : paper.Fresh). f.verdict) e))
