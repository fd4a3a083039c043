-- What the cells of one slot share on a day: the code's steps give the paper's rules 1 to 3 and 5, each depth is at most gross precipitation, and
-- the array that has them slot by slot gives every cell its plot, whatever its available water and its way.
use mathlib.Core.Path.{◌≡◌, refl, ap, sym, ◌∙◌}
use mathlib.Core.Bool.{Bool, true, false, cond, not}
use mathlib.Core.List.{List, [], ◌∷◌}
use Prim.Native.Nat.{ℕ, ◌+◌, ◌-◌, ◌*◌, ◌/◌, ◌%◌, ◌≤◌, ◌<◌, min}
use native.Mathlib.Nat.{mul-zero}
use native.Mathlib.Omega.{arith}
use lib.Dec.{eqb, leb}
use lib.ListN.{length, get_or, set}
use borrow.Author.Tests.{le-leb, leb-true}
use Rattle.theory.specs.Lists.{made_over}
use Rattle.theory.specs.Sums.{given}
use Rattle.theory.proofs.Cases.{by_cases, and_left, and_right, cond_true, cond_false}
use Rattle.theory.proofs.ListLaws.{wrote, over_at}
use Rattle.paper.specs.Limits.{within, most_gross, least_curve_number, most_curve_number}
use Rattle.paper.specs.Covers.{entries, number_of, open_of, curve_number_of, largest_of, growing_of, dormant_of, root_depth_of}
use Rattle.paper.specs.Interception.{intercepted, net}
use Rattle.paper.specs.CurveNumber.{Condition}
use Rattle.paper.specs.State.{most_soil_of}
use Rattle.paper.specs.CellDay.{Today, figure_of, intercepted_of, net_of, rain_of}
use Rattle.paper.proofs.CurveNumberLaws.{curve_number_limits}
use Rattle.weather.specs.Conditions.{curve_number_by}
use Rattle.weather.proofs.TodayLaws.{table_number}
use Rattle.covers.specs.Slots.{open_at, season_at, group_number_at, cell_from}
use Rattle.covers.specs.Plots.{caught_of, wet_of, fall_of, curve_of, curve_by, drain_of, shared_by, plot_number, plots_of, plot_for, plot_at, plot_by}

-- a number of 32 bits is one again in any condition
pub curve_small : (condition : Condition) (N : ℕ) → N < 4294967296 → curve_number_by condition N < 4294967296
unfolding curve_number_by
curve_small condition N h =
    by_cases (within least_curve_number most_curve_number N)
    (λ e. rw (cond_true (within least_curve_number most_curve_number N) e)
    (let limits = curve_number_limits condition N (leb-true _ _ (and_left _ _ e)) (leb-true _ _ (and_right (leb least_curve_number N) _ e)) in
    omega (arith, limits.most)))
    (λ e. rw (cond_false (within least_curve_number most_curve_number N) e) h)

-- a slot's numbers from the code's steps
module _ (t : Today) (covers : List ℕ) (slot : ℕ) where
  pub on_water : eqb (open_of covers (slot / 4)) 1 ≡ true → (0 ∷ t.gross ∷ 0 ∷ 0 ∷ 0 ∷ 0 ∷ []) ≡ shared_by t covers slot
  unfolding shared_by caught_of wet_of fall_of curve_by group_number_at drain_of cell_from
  on_water wet = rw wet

  season : (growing : Bool) → number_of covers (slot / 4) (cond growing 10 11) ≡ cond growing (growing_of covers (slot / 4)) (dormant_of covers (slot / 4))
  season true = refl
  season Bool.false = refl

  pub on_land : (figure held rest rain fall table curve root largest : ℕ) → eqb (open_of covers (slot / 4)) 1 ≡ false
      → figure ≡ number_of covers (slot / 4) (cond t.growing? 10 11) → held ≡ min t.gross figure → rest ≡ t.gross - held
      → rain ≡ given (not t.snows?) rest → fall ≡ given t.snows? rest
      → table ≡ curve_number_of covers (slot / 4) (slot % 4 + 1) → curve ≡ curve_number_by t.condition table
      → root ≡ root_depth_of covers (slot / 4) (slot % 4 + 1) → largest ≡ largest_of covers (slot / 4) (slot % 4 + 1)
      → (held ∷ rain ∷ fall ∷ curve ∷ root ∷ largest ∷ []) ≡ shared_by t covers slot
  unfolding shared_by caught_of wet_of fall_of curve_by group_number_at drain_of cell_from intercepted_of rain_of net_of figure_of net intercepted
  on_land figure held rest rain fall table curve root largest dry ef eh er en el et ec eo eg =
      rw (dry, en, el, ec, et, eo, eg, er, eh, ef, season t.growing?)

  -- each is the array's number at its place
  number_of_lem : (k : ℕ) → k < 6 → plot_number t covers (6 * slot + k) ≡ get_or (shared_by t covers slot) k 0
  unfolding plot_number
  number_of_lem k h =
      let whole : (6 * slot + k) / 6 ≡ slot = omega arith in
      let part : (6 * slot + k) % 6 ≡ k = omega arith in
      rw (whole, part)

  one_laid : (k x : ℕ) (before l : List ℕ) → k < 6 → 6 * slot + 6 ≤ length before → l ≡ made_over (6 * slot + k) (plot_number t covers) before
      → x ≡ get_or (shared_by t covers slot) k 0 → set l (6 * slot + k) x ≡ made_over (6 * slot + (k + 1)) (plot_number t covers) before
  one_laid k x before l h room e v =
      let next : 6 * slot + k + 1 ≡ 6 * slot + (k + 1) = omega arith in
      wrote (plot_number t covers) before l (6 * slot + k) x e (v ∙ sym (number_of_lem k h)) (omega arith)
      ∙ ap (λ (m : ℕ). made_over m (plot_number t covers) before) next

  pub laid : (a b c d e f : ℕ) (before l : List ℕ) → (a ∷ b ∷ c ∷ d ∷ e ∷ f ∷ []) ≡ shared_by t covers slot → 6 * slot + 6 ≤ length before
      → l ≡ made_over (6 * slot) (plot_number t covers) before
      → set (set (set (set (set (set l (6 * slot + 0) a) (6 * slot + 1) b) (6 * slot + 2) c) (6 * slot + 3) d) (6 * slot + 4) e) (6 * slot + 5) f
      ≡ made_over (6 * (slot + 1)) (plot_number t covers) before
  laid a b c d e f before l all room start =
      let none : 6 * slot ≡ 6 * slot + 0 = omega arith in
      let end : 6 * slot + (5 + 1) ≡ 6 * (slot + 1) = omega arith in
      one_laid 5 f before _ (omega arith) room
      (one_laid 4 e before _ (omega arith) room
      (one_laid 3 d before _ (omega arith) room
      (one_laid 2 c before _ (omega arith) room
      (one_laid 1 b before _ (omega arith) room
      (one_laid 0 a before l (omega arith) room (start ∙ ap (λ (m : ℕ). made_over m (plot_number t covers) before) none) (is 0)) (is 1)) (is 2)) (is 3)) (is 4)) (is 5)
      ∙ ap (λ (m : ℕ). made_over m (plot_number t covers) before) end
    where
      is : (k : ℕ) → get_or (a ∷ b ∷ c ∷ d ∷ e ∷ f ∷ []) k 0 ≡ get_or (shared_by t covers slot) k 0
      is k = ap (λ (l : List ℕ). get_or l k 0) all

-- the plot of each cell of a slot that the table has
module _ (t : Today) (covers before plots : List ℕ) (few : t.gross ≤ most_gross) (filled : plots ≡ plots_of t covers before) (slot : ℕ)
    (inside : slot < 4 * entries covers) (small : slot < 256) where
  at_place : (k : ℕ) → k < 6 → plot_at plots slot k ≡ get_or (shared_by t covers slot) k 0
  unfolding plots_of
  at_place k h =
      let laid_there : 6 * slot + k < 6 * min 256 (4 * entries covers) = omega arith in
      rw (filled, le-leb t.gross most_gross few) (over_at (6 * min 256 (4 * entries covers)) (plot_number t covers) before 0 (6 * slot + k) laid_there)
      ∙ number_of_lem t covers slot k h

  -- the snowfall alone
  pub fall_is : plot_at plots slot 2 ≡ cond (open_at covers slot) 0 (given t.snows? (net t.gross (season_at covers slot t.growing?)))
  unfolding shared_by fall_of cell_from net_of figure_of season_at
  fall_is = at_place 2 (omega arith)

  times_root : (b : Bool) (available d : ℕ) → available * cond b 0 d ≡ cond b 0 (available * d)
  times_root true available d = mul-zero available
  times_root Bool.false available d = refl

  -- the table's N
  abbrev N : ℕ
  N = curve_number_of covers (slot / 4) (slot % 4 + 1)

  pub plot_is : (available way : ℕ) → least_curve_number ≤ N → N ≤ most_curve_number → plot_by plots slot available ≡ plot_for t (cell_from covers slot available way)
  unfolding plot_by plot_for shared_by caught_of wet_of fall_of curve_of curve_by group_number_at drain_of cell_from intercepted_of rain_of net_of figure_of most_soil_of
  plot_is available way low high =
      λ k. record {
        intercepted = at_place 0 (omega arith) k;
        rain = at_place 1 (omega arith) k;
        snowfall = at_place 2 (omega arith) k;
        curve = (at_place 3 (omega arith) ∙ ap (cond (open_at covers slot) 0) (table_number t.condition N low high)) k;
        capacity = (ap (λ (x : ℕ). available * x) (at_place 4 (omega arith)) ∙ times_root (eqb (open_of covers (slot / 4)) 1) available _) k;
        largest = at_place 5 (omega arith) k;
      }
