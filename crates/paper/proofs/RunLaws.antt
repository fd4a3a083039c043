-- Demand 3. On one day the wetter state's cells pass on no less water, so that no less arrives below them, and every figure of every cell is
-- no smaller; both days have the same gross precipitation and intercept the same, so that by the two accounts the extra stored before is
-- the extra that leaves and the extra stored after. A run keeps both, day by day.
use mathlib.Core.Path.{◌≡◌, refl, sym, ap, ◌∙◌, subst}
use mathlib.Core.List.{List, [], ◌∷◌}
use mathlib.Core.Bool.{Bool}
use Prim.Native.Nat.{ℕ, zero, suc, ◌+◌, ◌-◌, ◌≤◌, ◌<◌, zero-le}
use native.Mathlib.Nat.{le_refl, add-sub_of_le, add-le-add, not-suc-le-zero, le_of_suc-le-suc}
use native.Mathlib.Omega.{arith}
use lib.ListN.{length, take, get_or-eq_default}
use Rattle.theory.specs.Lists.{made}
use Rattle.theory.specs.Sums.{sum, given}
use Rattle.theory.proofs.Cases.{below_or_not}
use Rattle.theory.proofs.ListLaws.{made_at, made_length}
use Rattle.theory.proofs.SumLaws.{sum_cong, sum_le, given_le}
use Rattle.paper.specs.CurveNumber.{curve_number}
use Rattle.paper.specs.Frost.{frost_after}
use Rattle.paper.specs.Setup.{Setup, cell, cells, next}
use Rattle.paper.specs.State.{State, Day, Past, past_after, most_soil_of, soil_at, snow_at}
use Rattle.paper.specs.CellDay.{Today, today, runoff_of, ground_of, passed_of, Figures}
use Rattle.paper.specs.Refusals.{accepted}
use Rattle.paper.specs.Day.{own, passed, inflow, figures, is_gone, Results, totals_of, results_of, next_state, verdict_of, figures_of, outcome_as, day_of}
use Rattle.paper.specs.Run.{Standing, start, after_day, one_day, days, Accepted, stored, Wetter, NoSmaller, Demand3}
use Rattle.paper.proofs.CellDayLaws.{raining, Rises, passed_rises, own_rises, cell_rises, day_intercepted}
use Rattle.paper.proofs.FlowLaws.{arriving_rises}
use Rattle.paper.proofs.DayLaws.{SoundDay, sound_day, verdict_is, accepted_is, small}
use Rattle.paper.proofs.AccountLaws.{account, stored_next}

-- two states under one day's rules, the second with more gross precipitation or as much
module _ (s : Setup) (a b : State) (t : Today) (g h : ℕ) (more : g ≤ h)
    (soil : (i : ℕ) → soil_at a i ≤ soil_at b i) (snow : (i : ℕ) → snow_at a i ≤ snow_at b i)
    (room : (i : ℕ) → i < cells s → soil_at b i ≤ most_soil_of (cell s i))
    (numbers : (i : ℕ) → i < cells s → curve_number t.condition (cell s i).N ≤ 100) where
  inflow_rises : (i : ℕ) → inflow s a (raining t g) i ≤ inflow s b (raining t h) i
  unfolding inflow passed passed_of runoff_of ground_of own
  inflow_rises =
      arriving_rises (cells s) (next s) (passed s a t) (passed s b t)
      (λ j w v hj less. passed_rises (cell s j) t (numbers j hj) (soil_at a j) (soil_at b j) w v (soil j) (room j hj) less)
      (own s a (raining t g)) (own s b (raining t h))
      (λ i hi. own_rises (cell s i) t g h more (snow_at a i) (snow_at b i) (snow i))

  pub figures_rise : (i : ℕ) → i < cells s → Rises (figures s a (raining t g) i) (figures s b (raining t h) i)
  unfolding figures
  figures_rise i hi =
      cell_rises (cell s i) t g h more (soil_at a i) (soil_at b i) (snow_at a i) (snow_at b i)
      (inflow s a (raining t g) i) (inflow s b (raining t h) i) (numbers i hi) (soil i) (room i hi) (snow i) (inflow_rises i)

made_rises : (n : ℕ) (f g : ℕ → ℕ) → ((i : ℕ) → i < n → f i ≤ g i) → NoSmaller (made n f) (made n g)
unfolding NoSmaller
made_rises n f g h i =
    below_or_not i n (λ l. rw (made_at n f 0 i l, made_at n g 0 i l) (h i l))
    (λ l. rw (get_or-eq_default (made n f) 0 {n = i} (rw (made_length n f) l)) zero-le)

-- one day of two runs
module _ (s : Setup) (a b : State) (ra rb : Results) (d : Day) (oka : SoundDay s a ra d) (okb : SoundDay s b rb d) (wet : Wetter a b) where
  abbrev f : ℕ → Figures
  f = figures_of s a d

  abbrev g : ℕ → Figures
  g = figures_of s b d

  both : (i : ℕ) → i < cells s → (P : Figures → Figures → Type 0)
      → P (figures s a (today s.climate a.past d) i) (figures s b (today s.climate a.past d) i) → P (f i) (g i)
  unfolding figures_of
  both i h P =
      subst (λ (m : Past). P (figures s a (today s.climate a.past d) i) (figures s b (today s.climate m d) i)) wet.past

  day_rises : (i : ℕ) → i < cells s → Rises (f i) (g i)
  unfolding today
  day_rises i h =
      both i h Rises
      (figures_rise s a b (today s.climate a.past d) d.gross d.gross (le_refl d.gross) wet.soil wet.snow
      okb.soil (small s a ra d oka) i h)

  same_intercepted : sum (cells s) (λ i. (f i).intercepted) ≡ sum (cells s) (λ i. (g i).intercepted)
  unfolding figures
  same_intercepted =
      sum_cong (cells s) _ _ (λ i h. both i h (λ p q. p.intercepted ≡ q.intercepted)
      (day_intercepted (cell s i) (today s.climate a.past d) _ _ _ ∙ sym (day_intercepted (cell s i) (today s.climate a.past d) _ _ _)))

  -- what leaves the grid's soil and snow in a day
  abbrev leaving : (ℕ → Figures) → ℕ
  leaving figure =
      sum (cells s) (λ i. (figure i).evapotranspired)
      + sum (cells s) (λ i. (figure i).recharged)
      + sum (cells s) (λ i. given (cell s i).closed? (figure i).rejected)
      + sum (cells s) (λ i. given (is_gone s i) (figure i).outflow)

  -- the extra before is the extra leaving and the extra after
  extra : stored s b + (leaving f + sum (cells s) (λ i. (f i).soil + (f i).snow))
      ≡ stored s a + (leaving g + sum (cells s) (λ i. (g i).soil + (g i).snow))
  unfolding stored
  extra = omega (arith, account s a ra d oka, account s b rb d okb, same_intercepted)

  more_of : (part : Figures → ℕ) → ((x y : Figures) → Rises x y → part x ≤ part y)
      → sum (cells s) (λ i. part (f i)) ≤ sum (cells s) (λ i. part (g i))
  more_of part up = sum_le (cells s) _ _ (λ i h. up (f i) (g i) (day_rises i h))

  more_where : (counted : ℕ → Bool) (part : Figures → ℕ) → ((x y : Figures) → Rises x y → part x ≤ part y)
      → sum (cells s) (λ i. given (counted i) (part (f i))) ≤ sum (cells s) (λ i. given (counted i) (part (g i)))
  more_where counted part up = sum_le (cells s) _ _ (λ i h. given_le (counted i) (up (f i) (g i) (day_rises i h)))

  no_smaller : (part : Figures → ℕ) → ((x y : Figures) → Rises x y → part x ≤ part y)
      → NoSmaller (made (cells s) (λ i. part (f i))) (made (cells s) (λ i. part (g i)))
  no_smaller part up = made_rises (cells s) _ _ (λ i h. up (f i) (g i) (day_rises i h))

  wetter_next : Wetter (next_state s a d f) (next_state s b d g)
  unfolding next_state NoSmaller
  wetter_next =
      record {
        soil = no_smaller (λ x. x.soil) (λ x y up. up.soil);
        snow = no_smaller (λ x. x.snow) (λ x y up. up.snow);
        past = ap (λ (p : Past). past_after p d) wet.past;
      }

-- what a run keeps, day by day: the second is ahead in every sum and store, and the extra at the start is accounted for
record Ahead (s : Setup) (first_start second_start : State) (x y : Standing) : Type 0 where
  wetter : Wetter x.state y.state
  evapotranspired : x.evapotranspired ≤ y.evapotranspired
  recharged : x.recharged ≤ y.recharged
  rejected : x.rejected ≤ y.rejected
  gone : x.gone ≤ y.gone
  account :
      stored s second_start + (x.evapotranspired + x.recharged + x.rejected + x.gone + stored s x.state)
      ≡ stored s first_start + (y.evapotranspired + y.recharged + y.rejected + y.gone + stored s y.state)

record NoSmallerResults (x y : Results) : Type 0 where
  outflow : NoSmaller x.outflow y.outflow
  evapotranspired : NoSmaller x.evapotranspired y.evapotranspired
  recharged : NoSmaller x.recharged y.recharged
  rejected : NoSmaller x.rejected y.rejected

module _ (s : Setup) (first_start second_start : State) where
  one_more_lem : (x y : Standing) (d : Day) → Ahead s first_start second_start x y → verdict_of s x.state x.results d ≡ accepted
      → verdict_of s y.state y.results d ≡ accepted
      → Ahead s first_start second_start (one_day s x d) (one_day s y d) × NoSmallerResults (one_day s x d).results (one_day s y d).results
  unfolding one_day after_day outcome_as totals_of results_of
  one_more_lem x y d ahead vx vy =
      let okx : SoundDay s x.state x.results d = sound_day s x.state x.results d vx in
      let oky : SoundDay s y.state y.results d = sound_day s y.state y.results d vy in
      let wet : Wetter x.state y.state = ahead.wetter in
      let most : (part : Figures → ℕ) → ((p q : Figures) → Rises p q → part p ≤ part q)
      → sum (cells s) (λ i. part (figures_of s x.state d i)) ≤ sum (cells s) (λ i. part (figures_of s y.state d i))
      = more_of s x.state y.state x.results y.results d okx oky wet in
      let some : (counted : ℕ → Bool) (part : Figures → ℕ) → ((p q : Figures) → Rises p q → part p ≤ part q)
      → sum (cells s) (λ i. given (counted i) (part (figures_of s x.state d i))) ≤ sum (cells s) (λ i. given (counted i) (part (figures_of s y.state d i)))
      = more_where s x.state y.state x.results y.results d okx oky wet in
      let all : (part : Figures → ℕ) → ((p q : Figures) → Rises p q → part p ≤ part q)
      → NoSmaller (made (cells s) (λ i. part (figures_of s x.state d i))) (made (cells s) (λ i. part (figures_of s y.state d i)))
      = no_smaller s x.state y.state x.results y.results d okx oky wet in
      rw (accepted_is s x.state x.results d vx, accepted_is s y.state y.results d vy) (
        record {
          wetter = wetter_next s x.state y.state x.results y.results d okx oky wet;
          evapotranspired = add-le-add ahead.evapotranspired (most (λ p. p.evapotranspired) (λ p q up. up.evapotranspired));
          recharged = add-le-add ahead.recharged (most (λ p. p.recharged) (λ p q up. up.recharged));
          rejected = add-le-add ahead.rejected (some (λ i. (cell s i).closed?) (λ p. p.rejected) (λ p q up. up.rejected));
          gone = add-le-add ahead.gone (some (is_gone s) (λ p. p.outflow) (λ p q up. up.outflow));
          account =
              omega (
                arith,
                extra s x.state y.state x.results y.results d okx oky wet,
                stored_next s x.state d (figures_of s x.state d),
                stored_next s y.state d (figures_of s y.state d),
              );
        },
        record {
          outflow = all (λ p. p.outflow) (λ p q up. up.outflow);
          evapotranspired = all (λ p. p.evapotranspired) (λ p q up. up.evapotranspired);
          recharged = all (λ p. p.recharged) (λ p q up. up.recharged);
          rejected = all (λ p. p.rejected) (λ p q up. up.rejected);
        },
      )

  -- the account by what each side has more of
  differences : (e p₁ p₂ p₃ p₄ p₅ q₁ q₂ q₃ q₄ q₅ u v : ℕ) → v ≡ u + e → q₁ ≡ p₁ + (q₁ - p₁) → q₂ ≡ p₂ + (q₂ - p₂) → q₃ ≡ p₃ + (q₃ - p₃)
      → q₄ ≡ p₄ + (q₄ - p₄) → q₅ ≡ p₅ + (q₅ - p₅) → v + (p₁ + p₂ + p₃ + p₄ + p₅) ≡ u + (q₁ + q₂ + q₃ + q₄ + q₅)
      → e ≡ (q₁ - p₁) + (q₂ - p₂) + (q₃ - p₃) + (q₄ - p₄) + (q₅ - p₅)
  differences e p₁ p₂ p₃ p₄ p₅ q₁ q₂ q₃ q₄ q₅ u v = apart (q₁ - p₁) (q₂ - p₂) (q₃ - p₃) (q₄ - p₄) (q₅ - p₅)
    where
      apart : (d₁ d₂ d₃ d₄ d₅ : ℕ) → v ≡ u + e → q₁ ≡ p₁ + d₁ → q₂ ≡ p₂ + d₂ → q₃ ≡ p₃ + d₃ → q₄ ≡ p₄ + d₄ → q₅ ≡ p₅ + d₅
          → v + (p₁ + p₂ + p₃ + p₄ + p₅) ≡ u + (q₁ + q₂ + q₃ + q₄ + q₅) → e ≡ d₁ + d₂ + d₃ + d₄ + d₅
      apart d₁ d₂ d₃ d₄ d₅ a b₁ b₂ b₃ b₄ b₅ c = omega arith

  more_stored : (a b : State) → Wetter a b → stored s a ≤ stored s b
  unfolding stored
  more_stored a b wet = sum_le (cells s) _ _ (λ i h. add-le-add (wet.soil i) (wet.snow i))

  module _ (start_wetter : Wetter first_start second_start) where
    met : (x y : Standing) → Ahead s first_start second_start x y → NoSmallerResults x.results y.results
        → Demand3 s first_start second_start x y
    met x y ahead r =
        record {
          outflow = r.outflow;
          evapotranspiration = r.evapotranspired;
          recharge = r.recharged;
          rejected = r.rejected;
          soil = unfold NoSmaller in ahead.wetter.soil;
          snow = unfold NoSmaller in ahead.wetter.snow;
          more_evapotranspired = ahead.evapotranspired;
          more_recharged = ahead.recharged;
          more_rejected = ahead.rejected;
          more_gone = ahead.gone;
          account =
              differences _ _ _ _ _ _ _ _ _ _ _ (stored s first_start) (stored s second_start)
              (sym (add-sub_of_le (more_stored first_start second_start start_wetter)))
              (sym (add-sub_of_le ahead.evapotranspired)) (sym (add-sub_of_le ahead.recharged))
              (sym (add-sub_of_le ahead.rejected)) (sym (add-sub_of_le ahead.gone))
              (sym (add-sub_of_le (more_stored x.state y.state ahead.wetter))) ahead.account;
        }

    onward : (ds : List Day) (x y : Standing) → Ahead s first_start second_start x y → Accepted s x ds → Accepted s y ds
        → (k : ℕ) → k < length ds → Demand3 s first_start second_start (days s x (take (suc k) ds)) (days s y (take (suc k) ds))
    unfolding Accepted days
    onward [] x y ahead ax ay k h = absurd (not-suc-le-zero h)
    onward (d ∷ ds) x y ahead ax ay zero h =
        let next : Ahead s first_start second_start (one_day s x d) (one_day s y d) × NoSmallerResults (one_day s x d).results (one_day s y d).results
        = one_more_lem x y d ahead (sym (verdict_is s x.state x.results d) ∙ ax.0) (sym (verdict_is s y.state y.results d) ∙ ay.0) in
        met (one_day s x d) (one_day s y d) next.0 next.1
    onward (d ∷ ds) x y ahead ax ay (suc k) h =
        onward ds (one_day s x d) (one_day s y d)
        (one_more_lem x y d ahead (sym (verdict_is s x.state x.results d) ∙ ax.0) (sym (verdict_is s y.state y.results d) ∙ ay.0)).0
        ax.1 ay.1 k (le_of_suc-le-suc h)

-- Snow does not insulate, so that equal starting indexes stay equal, whatever else the two states hold
frost_next : (s : Setup) (run : Standing) (d : Day) → (day_of s run.state run.results d).verdict ≡ accepted
    → (one_day s run d).state.past.frost ≡ frost_after run.state.past.frost d.mean
unfolding one_day after_day outcome_as next_state
frost_next s run d e =
    rw (accepted_is s run.state run.results d (sym (verdict_is s run.state run.results d) ∙ e)) refl

pub same_frost : (s : Setup) (ds : List Day) (x y : Standing) → x.state.past.frost ≡ y.state.past.frost → Accepted s x ds → Accepted s y ds
    → (days s x ds).state.past.frost ≡ (days s y ds).state.past.frost
unfolding Accepted days
same_frost s [] x y e ax ay = e
same_frost s (d ∷ ds) x y e ax ay =
    same_frost s ds (one_day s x d) (one_day s y d)
    (frost_next s x d ax.0 ∙ ap (λ (index : ℕ). frost_after index d.mean) e ∙ sym (frost_next s y d ay.0)) ax.1 ay.1

-- Demand 3: after each day k, from 0, of any list of days that is accepted in both runs
pub demand_3 : (s : Setup) (first second : State) (first_lent second_lent : Results) (ds : List Day) → Wetter first second
    → Accepted s (start first first_lent) ds → Accepted s (start second second_lent) ds → (k : ℕ) → k < length ds
    → Demand3 s first second (days s (start first first_lent) (take (suc k) ds)) (days s (start second second_lent) (take (suc k) ds))
unfolding start
demand_3 s first second first_lent second_lent ds wet =
    onward s first second wet ds (start first first_lent) (start second second_lent)
    (record {
      wetter = wet;
      evapotranspired = le_refl 0;
      recharged = le_refl 0;
      rejected = le_refl 0;
      gone = le_refl 0;
      account = omega arith;
    })
