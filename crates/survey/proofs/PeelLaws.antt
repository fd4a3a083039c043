-- Each step of the peeling's code is a step of the laws on orders: a source is taken in hand, then the cell to which it leads, for as long as that
-- one waits for no other. With all sources taken the cells that wait are those on rings, and where none waits the queue is the order.
use mathlib.Core.Path.{◌≡◌, refl, sym, ap, ◌∙◌, subst}
use mathlib.Core.Bool.{Bool, true, false}
use mathlib.Core.List.{List}
use mathlib.Core.Logic.{⊎_elim}
use Prim.Native.Nat.{ℕ, suc, ◌+◌, ◌-◌, ◌≤◌, ◌<◌, zero-le}
use native.Mathlib.Nat.{le_of_suc-le-suc, le_refl, le_trans, le_step, eq-or-lt_of_le, eq-zero-or-pos}
use native.Mathlib.Numerals.{add-one}
use native.Mathlib.Omega.{arith}
use lib.Dec.{eqb, leb, ltb}
use lib.ListN.{length, get_or, set, length-set}
use lib.Seq.{get_or-set_same}
use borrow.Author.Tests.{eqb-true, eqb-false, lt-ltb, le-ltb, le-leb, lt-leb, ltb-false}
use Rattle.theory.specs.Sums.{given}
use Rattle.theory.specs.Lowest.{lowest}
use Rattle.theory.specs.Ways.{on_ring, OneWay}
use Rattle.theory.proofs.Cases.{by_cases, below_or_not, and_second}
use Rattle.theory.proofs.SumLaws.{sum_most, given_most}
use Rattle.theory.proofs.LowestLaws.{lowest_cong, lowest_none, none_lowest}
use Rattle.std.specs.Prelude.{Option, Some, None}
use Rattle.records.specs.Places.{place_in}
use Rattle.survey.specs.Charts.{OrderedBy}
use Rattle.survey.specs.Order.{OrderOrRing, leading, waits, queued, Counted, Queue, GatheredHeld, QueueHeld, ahead, PeeledHeld}
use Rattle.survey.proofs.OrderLaws.{without, without_it, without_other, start, room, waiting, shut, left_behind, still_waiting, new, joins}
use Rattle.survey.proofs.RingLaws.{leftover_rings, peeled, peeled_who}
use Rattle.records.proofs.PlaceLaws.{found_no}
use Rattle.survey.proofs.CountLaws.{counted_waits}
use Rattle.survey.proofs.GatherLaws.{put_waits, put_queued, put_others, less_waits, less_others, less_queued}

-- which places are ahead
ahead_on : (head sources t : ℕ) → head ≤ t → t < sources → ahead head sources t ≡ true
unfolding ahead
ahead_on head sources t h l = rw (le-leb head t h, lt-ltb t sources l)

ahead_behind : (head sources t : ℕ) → t < head → ahead head sources t ≡ false
unfolding ahead
ahead_behind head sources t h = rw (lt-leb head t h)

ahead_past : (head sources t : ℕ) → sources ≤ t → ahead head sources t ≡ false
unfolding ahead
ahead_past head sources t h = rw (le-ltb t sources h) (and_second (leb head t) false refl)

ahead_next : (head sources t : ℕ) → (head ≡ t → ⊥) → ahead head sources t ≡ ahead (suc head) sources t
ahead_next head sources t d =
    below_or_not t head (λ l. ahead_behind head sources t l ∙ sym (ahead_behind (suc head) sources t (le_step l)))
    (λ g. below_or_not t sources
    (λ l. ahead_on head sources t g l ∙ sym (ahead_on (suc head) sources t (omega arith) l))
    (λ l. ahead_past head sources t l ∙ sym (ahead_past (suc head) sources t l)))

pub queue_start : {n : ℕ} {next : ℕ → ℕ} {l l' : List ℕ} {tail : ℕ} → Counted n next n l → GatheredHeld n (waits l) n tail l'
    → PeeledHeld n next 0 tail tail l'
queue_start {tail = tail} c g =
    record {
      rest = λ j. true;
      kept = record { sized = g.sized; queue = start g.queue (counted_waits c); blank = g.blank };
      behind = le_refl tail;
      still = λ t h. sym (ahead_on 0 tail t zero-le h);
    }

-- the queue with a cell in hand, which leads to j and is the next to be taken: with it, all is taken but the sources past `head`
pub record InHand (n : ℕ) (next : ℕ → ℕ) (head sources tail j : ℕ) (l : List ℕ) : Type 0 where
  pub rest : ℕ → Bool
  pub kept : QueueHeld n next rest tail l
  pub behind : sources ≤ tail
  pub cell : ℕ
  pub leads_on : next cell ≡ j
  pub inside : cell < n
  pub ready : rest cell ≡ true
  pub free : waits l cell ≡ 0
  pub still : (t : ℕ) → t < tail → without rest cell (queued l t) ≡ ahead (suc head) sources t

pub hand_source : {n : ℕ} {next : ℕ → ℕ} {head sources tail : ℕ} {l : List ℕ} → PeeledHeld n next head sources tail l → head < sources
    → InHand n next head sources tail (next (queued l head)) l
hand_source {head = head} {sources = sources} {tail = tail} {l = l} p h =
    let q = p.kept.queue in
    let here : head < tail = omega (arith, p.behind) in
    record {
      rest = p.rest;
      kept = p.kept;
      behind = p.behind;
      cell = queued l head;
      leads_on = refl;
      inside = q.placed head here;
      ready = p.still head here ∙ ahead_on head sources head (le_refl head) h;
      free = q.free head here;
      still = λ t a.
          by_cases (eqb head t)
          (λ e. let same = eqb-true head t e in
          without_it p.rest (queued l head) (queued l t) (ap (queued l) same) ∙ sym (ahead_behind (suc head) sources t (omega arith)))
          (λ e. let other = eqb-false head t e in
          without_other p.rest (queued l head) (queued l t) (λ s. other (q.once head t here a s)) ∙ p.still t a ∙ ahead_next head sources t other);
    }

module _ {n : ℕ} {next : ℕ → ℕ} {head sources tail j : ℕ} {l : List ℕ} (p : InHand n next head sources tail j l) (m : n ≤ 4096) where
  abbrev peeling : Queue n next (waits l) (queued l) p.rest tail
  peeling = p.kept.queue

  abbrev cell : ℕ
  cell = p.cell

  abbrev e : next cell ≡ j
  e = p.leads_on

  abbrev less_rest : ℕ → Bool
  less_rest = without p.rest cell

  pub hand_outside : n ≤ j → PeeledHeld n next (suc head) sources tail l
  hand_outside o =
      record {
        rest = less_rest;
        kept = record { sized = p.kept.sized; queue = left_behind peeling cell p.inside p.ready p.free (rw e o); blank = p.kept.blank };
        behind = p.behind;
        still = p.still;
      }

  module _ (i : j < n) where
    next_waits : 0 < waits l (next cell)
    next_waits = waiting peeling cell p.inside p.ready p.free (rw e i)

    pub hand_waiting : 8192 ≤ get_or l j 0
    unfolding waits
    hand_waiting = omega (arith, rw e at next_waits)

    pub hand_room : tail < n
    hand_room = room peeling (next cell) (rw e i) next_waits

    long : j < length l
    long = omega (arith, p.kept.sized)

    abbrev once_less : List ℕ
    once_less = set l j (get_or l j 0 - 8192)

    one : waits once_less (next cell) + 1 ≡ waits l (next cell)
    one = rw e (less_waits l j hand_waiting long)

    others : (k : ℕ) → (next cell ≡ k → ⊥) → waits once_less k ≡ waits l k
    others k d = less_others l j hand_waiting long k (λ s. d (e ∙ s))

    alike : queued l ≡ queued once_less
    alike = λ x t. sym (less_queued l j hand_waiting long t) x

    less_blank : (t : ℕ) → tail ≤ t → t < n → queued once_less t ≡ 0
    less_blank t a b = less_queued l j hand_waiting long t ∙ p.kept.blank t a b

    less_sized : length once_less ≡ 4096
    less_sized = length-set l j (get_or l j 0 - 8192) ∙ p.kept.sized

    pub hand_still : 8192 ≤ get_or l j 0 - 8192 → PeeledHeld n next (suc head) sources tail once_less
    hand_still w =
        record {
          rest = less_rest;
          kept = record {
            sized = less_sized;
            queue =
                subst (λ (f : ℕ → ℕ). Queue n next (waits once_less) f less_rest tail) alike
                (still_waiting peeling cell p.inside p.ready p.free (rw e i) one others
                (rw e (unfold waits in rw (get_or-set_same l j (get_or l j 0 - 8192) 0 long) (omega arith))));
            blank = less_blank;
          };
          behind = p.behind;
          still = λ t a. ap less_rest (less_queued l j hand_waiting long t) ∙ p.still t a;
        }

    few_left : waits once_less tail ≤ 4096
    few_left =
        let most : waits l tail ≤ 4096 = omega (
          arith,
          peeling.left tail hand_room,
          sum_most n (λ j. given (p.rest j) (leading next tail j)) 1
              (λ j _. le_trans (given_most (p.rest j) _) (unfold leading in given_most (eqb (next j) tail) 1)),
        ) in
        by_cases (eqb j tail)
        (λ s. let same = eqb-true j tail s in omega (arith, less_waits l j hand_waiting long, ap (waits l) same, ap (waits once_less) same))
        (λ s. omega (arith, less_others l j hand_waiting long tail (eqb-false j tail s)))

    pub hand_fits : get_or once_less tail 0 + j < 4294967296
    unfolding waits queued
    hand_fits = omega (arith, few_left, less_blank tail (le_refl tail) hand_room)

    module _ (w : get_or l j 0 - 8192 < 8192) where
      few : j < 8192
      few = omega arith

      unused : queued once_less tail ≡ 0
      unused = less_blank tail (le_refl tail) hand_room

      end : tail < length once_less
      end = omega (arith, less_sized, hand_room)

      abbrev joined : List ℕ
      joined = set once_less tail (get_or once_less tail 0 + j)

      waits_none : waits once_less j ≡ 0
      unfolding waits
      waits_none = rw (get_or-set_same l j (get_or l j 0 - 8192) 0 long) (omega arith)

      joined_waits : (t : ℕ) → waits joined t ≡ waits once_less t
      joined_waits = put_waits once_less tail j few unused end

      alike_waits : waits once_less ≡ waits joined
      alike_waits = λ x t. sym (joined_waits t) x

      last : queued joined tail ≡ j
      last = put_queued once_less tail j few unused end

      before : (t : ℕ) → t < tail → queued joined t ≡ queued l t
      before t a = put_others once_less tail j few unused end t (λ s. omega arith) ∙ less_queued l j hand_waiting long t

      -- the cell that joins was not taken, nor is it the one in hand: both wait for none
      next_ready : less_rest j ≡ true
      next_ready =
          by_cases (less_rest j) (λ r. r)
          (λ r. absurd (omega (arith, rw e at next_waits, shut peeling cell p.inside p.ready p.free j i r)))

      pub hand_joins : InHand n next head sources (tail + 1) (next j) joined
      hand_joins =
          record {
            rest = less_rest;
            kept = record {
              sized = length-set once_less tail (get_or once_less tail 0 + j) ∙ less_sized;
              queue =
                  rw add-one
                  (subst (λ (f : ℕ → ℕ). Queue n next f (queued joined) less_rest (suc tail)) alike_waits
                  (joins peeling cell p.inside p.ready p.free (rw e i) one others (rw e waits_none) (last ∙ sym e) before));
              blank = λ t a b. put_others once_less tail j few unused end t (λ s. omega arith) ∙ less_blank t (omega arith) b;
            };
            behind = omega (arith, p.behind);
            cell = j;
            leads_on = refl;
            inside = i;
            ready = next_ready;
            free = joined_waits j ∙ waits_none;
            still = λ t a.
                ⊎_elim
                (λ s. without_it less_rest j (queued joined t) (sym last ∙ ap (queued joined) (sym s))
                ∙ sym (ahead_past (suc head) sources t (omega (arith, p.behind))))
                (λ b. without_other less_rest j (queued joined t)
                (λ s. new peeling cell p.inside p.ready p.free (rw e i) t b (sym (before t b) ∙ sym s ∙ sym e))
                ∙ ap less_rest (before t b) ∙ p.still t b)
                (eq-or-lt_of_le (le_of_suc-le-suc (rw add-one at a)));
          }

-- with all sources taken: the cells that wait are those on rings, and where none waits the queue is the order
module _ {n : ℕ} {next : ℕ → ℕ} {sources tail : ℕ} {l : List ℕ} (p : PeeledHeld n next sources sources tail l) (out : OneWay n next) where
  gone : (t : ℕ) → t < tail → p.rest (queued l t) ≡ false
  gone t h =
      p.still t h ∙ below_or_not t sources (ahead_behind sources sources t) (ahead_past sources sources t)

  pub rings : lowest n (λ i. ltb 0 (waits l i)) ≡ lowest n (on_ring n next)
  rings = lowest_cong n (λ i. ltb 0 (waits l i)) (on_ring n next) (leftover_rings p.kept.queue gone out)

  ordered_by : ((i : ℕ) → i < n → waits l i ≡ 0) → OrderedBy n next l
  unfolding waits queued
  ordered_by none = record { order = peeled p.kept.queue gone out none; listed = λ t h. omega (arith, none t h, peeled_who p.kept.queue gone out none t) }

  -- none is left
  pub all_taken : n ≤ tail → OrderOrRing n next None l
  unfolding place_in
  all_taken h =
      record {
        ring = ap place_in (sym (none_lowest n (λ i. ltb 0 (waits l i)) (λ i a. le-ltb 0 (waits l i) (omega (arith, none i a)))) ∙ rings);
        ordered = λ e. ordered_by none;
      }
    where
      none : (i : ℕ) → i < n → waits l i ≡ 0
      none i a = ⊎_elim (λ e. e) (λ w. absurd (omega (arith, room p.kept.queue i a w))) (eq-zero-or-pos (waits l i))

  pub some_left : {r : Option ℕ} → r ≡ place_in (lowest n (λ i. ltb 0 (waits l i))) → OrderOrRing n next r l
  some_left {r} e = record { ring = e ∙ ap place_in rings; ordered = λ f. ordered_by (none (sym e ∙ f)) }
    where
      none : place_in (lowest n (λ i. ltb 0 (waits l i))) ≡ None → (i : ℕ) → i < n → waits l i ≡ 0
      none p i a =
          omega (
            arith,
            ltb-false 0 (waits l i) (lowest_none n (λ i. ltb 0 (waits l i)) (found_no (lowest n (λ i. ltb 0 (waits l i))) (sym p)) i a),
          )
