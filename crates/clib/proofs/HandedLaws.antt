-- The paper's answers as C gets them, number by number. A refused day writes memory, last serial and frost index as they were.
use mathlib.Core.List.{List, [], ◌∷◌}
use mathlib.Core.Path.{◌≡◌, refl, sym, ap, ◌∙◌}
use Prim.Native.Nat.{ℕ, ◌<◌, min}
use native.Mathlib.Omega.{arith}
use lib.Dec.{eqb}
use lib.ListN.{length}
use borrow.Author.Tests.{eqb-true}
use Rattle.theory.proofs.Cases.{by_cases, cond_true, cond_false}
use Rattle.paper.specs.Setup.{Setup}
use Rattle.paper.specs.State.{State, Day, Past, no_past, remembered, fresh_state}
use Rattle.paper.specs.Refusals.{Verdict, accepted, refused, verdict_number, verdict_place}
use Rattle.paper.specs.Day.{Fresh, fresh_as, fresh_of, Outcome, Results, verdict_of, outcome_as, next_state, day_of}
use Rattle.paper.proofs.DayLaws.{sound_day, kept_frost}
use Rattle.records.specs.declared.grids.Grid.{Grid}
use Rattle.records.specs.declared.grids.Climate.{Climate}
use Rattle.records.specs.Grids.{grid_as, climate_as, setup_as}
use Rattle.clib.specs.declared.given.Site.{Site}
use Rattle.clib.specs.Given.{grid_from, climate_from, setup_from}
use Rattle.clib.specs.Narrow.{narrow, NarrowMemory, Narrow}
use Rattle.clib.specs.Numbers.{returned, told, memory_from, memory_list, no_serial, last_from, last_number, past_from, totals_list}
use Rattle.clib.specs.Handed.{Stores, stores_from, state_from, stores_of, begun, begun_as, fresh_gives, handed, handed_as, day_gives}
use Rattle.clib.proofs.PlaceLaws.{setup_near, day_near, near_fits}

-- the setup that the library is handed
pub same_setup : (site : Site) (g : Grid) (c : Climate) → grid_as g ≡ grid_from site → climate_as c ≡ climate_from site
    → (covers direction cover group available : List ℕ)
    → setup_as g c covers direction cover group available ≡ setup_from site covers direction cover group available
same_setup site g c grid climate covers direction cover group available =
    λ k. record {
      grid = grid k;
      climate = climate k;
      covers = covers;
      direction = direction;
      cover = cover;
      group = group;
      available = available;
    }

-- nothing is lost between C's numbers and the paper's: what was read is written as it was
memory_back : (l : List ℕ) → length l ≡ 5 → memory_list (memory_from l) ≡ l
unfolding memory_list memory_from
memory_back [] h = absurd (omega arith)
memory_back (u ∷ []) h = absurd (omega arith)
memory_back (u ∷ v ∷ []) h = absurd (omega arith)
memory_back (u ∷ v ∷ w ∷ []) h = absurd (omega arith)
memory_back (u ∷ v ∷ w ∷ x ∷ []) h = absurd (omega arith)
memory_back (u ∷ v ∷ w ∷ x ∷ y ∷ []) h = refl
memory_back (u ∷ v ∷ w ∷ x ∷ y ∷ z ∷ l) h = absurd (omega arith)

last_back : (n : ℕ) → last_number (last_from n) ≡ n
unfolding last_number last_from
last_back n =
    by_cases (eqb n no_serial)
    (λ e. rw (cond_true (eqb n no_serial) e) (sym (eqb-true n no_serial e)))
    (λ e. rw (cond_false (eqb n no_serial) e) refl)

-- so a refused day, which hands back the state that was read, leaves all of it as it was lent
pub stores_back : (l : Stores) → length l.memory ≡ 5 → stores_of (state_from l) ≡ l
unfolding stores_of state_from past_from
stores_back l five = λ k. stores_from l.soil l.snow (memory_back l.memory five k) (last_back l.last k) l.frost

-- a place that fits 32 bits is told as it is
pub told_near : (v : Verdict) → verdict_place v < narrow → told v ≡ returned v
unfolding told returned
told_near v near = let same : min (verdict_place v) 4294967295 ≡ verdict_place v = omega (arith, near) in rw same refl

-- nothing is refused
pub none_returned : 0 ≡ returned accepted
unfolding returned verdict_number verdict_place
none_returned = refl

pub none_narrow : Narrow no_past
none_narrow =
    record {
      memory = record { oldest = omega arith; fourth = omega arith; third = omega arith; second = omega arith; yesterday = omega arith };
      frost = omega arith;
    }

-- a fresh state
module _ (s : Setup) (soil snow : List ℕ) where
  fresh_verdict : (v : Verdict) → (fresh_as s soil snow v).verdict ≡ v
  unfolding fresh_as
  fresh_verdict accepted = refl
  fresh_verdict (refused why) = refl

  fresh_past : (v : Verdict) → (fresh_as s soil snow v).state.past ≡ no_past
  unfolding fresh_as fresh_state
  fresh_past accepted = refl
  fresh_past (refused why) = refl

  pub fresh_near : {o : Fresh} → o ≡ fresh_of s soil snow → verdict_place o.verdict < narrow
  unfolding fresh_of
  fresh_near e = rw (ap (λ (o : Fresh). o.verdict) e ∙ fresh_verdict _) (near_fits (setup_near s _))

  pub fresh_narrow : {o : Fresh} → o ≡ fresh_of s soil snow → Narrow o.state.past
  unfolding fresh_of
  fresh_narrow e =
      rw (ap (λ (o : Fresh). o.state.past) e ∙ fresh_past _) none_narrow

pub fresh_handed : (s : Setup) (soil snow : List ℕ) {t : Setup} {o : Fresh} → o ≡ fresh_of t soil snow → t ≡ s
    → {number : ℕ} → number ≡ returned o.verdict
    → {memory : List ℕ} → memory ≡ memory_list o.state.past.memory
    → {last : ℕ} → last ≡ last_number o.state.past.last
    → {frost : ℕ} → frost ≡ o.state.past.frost
    → begun number (stores_from o.state.soil o.state.snow memory last frost) ≡ fresh_gives s soil snow
unfolding fresh_gives begun_as stores_of
fresh_handed s soil snow {t} {o} e same number memory last frost =
    (λ k. begun (number k) (stores_from o.state.soil o.state.snow (memory k) (last k) (frost k)))
    ∙ ap begun_as (e ∙ ap (λ (u : Setup). fresh_of u soil snow) same)

-- a day
module _ (s : Setup) (st : State) (r : Results) (d : Day) where
  day_verdict : (v : Verdict) → (outcome_as s st r d v).verdict ≡ v
  unfolding outcome_as
  day_verdict accepted = refl
  day_verdict (refused why) = refl

  pub day_placed : {o : Outcome} → o ≡ day_of s st r d → verdict_place o.verdict < narrow
  unfolding day_of verdict_of
  day_placed e = rw (ap (λ (o : Outcome). o.verdict) e ∙ day_verdict _) (near_fits (day_near s _ st d))

  -- the index that an accepted day sets is within its limit
  narrow_as : (v : Verdict) → verdict_of s st r d ≡ v → Narrow st.past → d.gross < narrow → Narrow (outcome_as s st r d v).state.past
  unfolding outcome_as next_state remembered
  narrow_as accepted e p g =
      let m : NarrowMemory st.past.memory = p.memory in
      record {
        memory = record { oldest = m.fourth; fourth = m.third; third = m.second; second = m.yesterday; yesterday = g };
        frost = omega (arith, kept_frost s st r d (sound_day s st r d e));
      }
  narrow_as (refused why) e p g = p

  pub day_narrow : {o : Outcome} → o ≡ day_of s st r d → Narrow st.past → d.gross < narrow → Narrow o.state.past
  unfolding day_of
  day_narrow e p g = rw (ap (λ (o : Outcome). o.state.past) e) (narrow_as _ refl p g)

pub day_handed : (s : Setup) (l : Stores) (r : Results) (d : Day)
    → {t : Setup} {p : Past} {z : Day} {o : Outcome} → o ≡ day_of t (record { soil = l.soil; snow = l.snow; past = p }) r z
    → t ≡ s → z ≡ d → p ≡ past_from l.memory l.last l.frost
    → {number : ℕ} → number ≡ returned o.verdict
    → {memory : List ℕ} → memory ≡ memory_list o.state.past.memory
    → {last : ℕ} → last ≡ last_number o.state.past.last
    → {frost : ℕ} → frost ≡ o.state.past.frost
    → {sums : List ℕ} → sums ≡ totals_list o.totals
    → handed number (stores_from o.state.soil o.state.snow memory last frost) o.results sums ≡ day_gives s l r d
unfolding day_gives handed_as stores_of state_from
day_handed s l r d {t} {p} {z} {o} e same days past number memory last frost sums =
    (λ k. handed (number k) (stores_from o.state.soil o.state.snow (memory k) (last k) (frost k)) o.results (sums k))
    ∙ ap handed_as (e ∙ (λ k. day_of (same k) (record { soil = l.soil; snow = l.snow; past = past k }) r (days k)))
