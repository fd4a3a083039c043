-- The tests, both ways: a list of tests accepts exactly where every place of every test passes, and refuses exactly where some test fails,
-- at its lowest place, with every test before it passing. Of a day's ten tests the one at k has the paper's number k + 1 and names its own
-- place, so each row of the paper's table is given exactly when it says, at its place.
use mathlib.Core.Path.{◌≡◌, refl, sym, ap, ◌∙◌, subst}
use mathlib.Core.Bool.{Bool, true, false, cond, true≢false, false≢true}
use mathlib.Core.List.{List, [], ◌∷◌, ◌++◌}
use Prim.Native.Nat.{ℕ, zero, suc, ◌+◌, ◌≤◌, ◌<◌, suc-le-suc}
use native.Mathlib.Nat.{not-suc-le-zero, le_of_suc-le-suc, zero-lt-suc, add-zero, add-suc, suc-add}
use native.Mathlib.Omega.{arith}
use lib.Dec.{eqb}
use lib.ListN.{length}
use Rattle.theory.specs.Lowest.{Found, at, nowhere, or_at, lowest}
use Rattle.theory.proofs.LowestLaws.{lowest_at, at_lowest, lowest_none, none_lowest}
use Rattle.paper.specs.Refusals.{
  Refusal,
  grid,
  lent,
  cover_table,
  cell_numbers,
  ring,
  climate,
  day_record,
  serial_gap,
  state_at,
  snowfall,
  number_of,
  place_of,
  Verdict,
  accepted,
  refused,
  verdict_number,
  verdict_place,
  Test,
  judged,
  verdict,
  single,
  setup_tests,
  map_tests,
  day_tests,
}
use Rattle.paper.specs.Setup.{Setup}
use Rattle.paper.specs.State.{State, Day}

-- no place of the test fails
unfoldable pub Passes : Test → Type 0
Passes t = (i : ℕ) → i < t.places → t.fails i ≡ false

-- the test fails at i, and at no lower place
pub record FailsAt (t : Test) (i : ℕ) : Type 0 where
  pub inside : i < t.places
  pub fails : t.fails i ≡ true
  pub lower : (j : ℕ) → j < i → t.fails j ≡ false

-- test k of a list, from 0 (the test that nothing fails past its end)
unfoldable pub test_at : List Test → ℕ → Test
test_at [] k = single true grid
test_at (t ∷ ts) zero = t
test_at (t ∷ ts) (suc k) = test_at ts k

-- the first test that fails is the one at k, at its lowest place i
pub record FirstFailing (ts : List Test) (why : Refusal) : Type 0 where
  pub k : ℕ
  pub i : ℕ
  pub inside : k < length ts
  pub before : (j : ℕ) → j < k → Passes (test_at ts j)
  pub here : FailsAt (test_at ts k) i
  pub named : (test_at ts k).called i ≡ why

-- by what the search in the first test finds
module _ (t : Test) (ts : List Test) where
  accepted_step : (f : Found) → lowest t.places t.fails ≡ f → judged f t.called (verdict ts) ≡ accepted
      → (verdict ts ≡ accepted → (k : ℕ) → k < length ts → Passes (test_at ts k))
      → (k : ℕ) → k < suc (length ts) → Passes (test_at (t ∷ ts) k)
  unfolding judged test_at Passes
  accepted_step (at i) found e rest k h = absurd (let z : ◌≡◌ {A = ℕ} 0 1 = cc in omega arith)
  accepted_step nowhere found e rest zero h = lowest_none t.places t.fails found
  accepted_step nowhere found e rest (suc k) h = rest e k (le_of_suc-le-suc h)

  refused_step : (why : Refusal) (f : Found) → lowest t.places t.fails ≡ f → judged f t.called (verdict ts) ≡ refused why
      → (verdict ts ≡ refused why → FirstFailing ts why) → FirstFailing (t ∷ ts) why
  unfolding judged test_at Passes
  refused_step why (at i) found e rest =
      let low : (i < t.places) × (t.fails i ≡ true) × ((j : ℕ) → j < i → t.fails j ≡ false)
      = lowest_at t.places t.fails found in
      record {
        k = 0;
        i = i;
        inside = zero-lt-suc (length ts);
        before = λ j h. absurd (not-suc-le-zero h);
        here = record { inside = low.0; fails = low.1; lower = low.2 };
        named = cc;
      }
  refused_step why nowhere found e rest =
      let later : FirstFailing ts why = rest e in
      record {
        k = suc later.k;
        i = later.i;
        inside = suc-le-suc later.inside;
        before = elim [ zero ↦ λ h. lowest_none t.places t.fails found | suc j ↦ λ h. later.before j (le_of_suc-le-suc h) ];
        here = later.here;
        named = later.named;
      }

pub accepted_passes : (ts : List Test) → verdict ts ≡ accepted → (k : ℕ) → k < length ts → Passes (test_at ts k)
unfolding verdict
accepted_passes [] e k h = absurd (not-suc-le-zero h)
accepted_passes (t ∷ ts) e k h = accepted_step t ts (lowest t.places t.fails) refl e (accepted_passes ts) k h

pub passes_accepted : (ts : List Test) → ((k : ℕ) → k < length ts → Passes (test_at ts k)) → verdict ts ≡ accepted
unfolding verdict judged test_at Passes
passes_accepted [] p = refl
passes_accepted (t ∷ ts) p =
    rw (none_lowest t.places t.fails (p 0 (zero-lt-suc (length ts))))
    (passes_accepted ts (λ k h. p (suc k) (suc-le-suc h)))

pub refused_first : (ts : List Test) (why : Refusal) → verdict ts ≡ refused why → FirstFailing ts why
unfolding verdict
refused_first [] why e = absurd (let z : ◌≡◌ {A = ℕ} 0 1 = cc in omega arith)
refused_first (t ∷ ts) why e = refused_step t ts why (lowest t.places t.fails) refl e (refused_first ts why)

first_at : (ts : List Test) (k i : ℕ) → k < length ts → ((j : ℕ) → j < k → Passes (test_at ts j)) → FailsAt (test_at ts k) i
    → verdict ts ≡ refused ((test_at ts k).called i)
unfolding verdict judged test_at Passes
first_at [] k i h before here = absurd (not-suc-le-zero h)
first_at (t ∷ ts) zero i h before here =
    rw (at_lowest t.places t.fails i here.inside here.fails here.lower) refl
first_at (t ∷ ts) (suc k) i h before here =
    rw (none_lowest t.places t.fails (before 0 (zero-lt-suc k)))
    (first_at ts k i (le_of_suc-le-suc h) (λ j l. before (suc j) (suc-le-suc l)) here)

-- a verdict comes back from its number and its place, so that two with the same number and place are one
verdict_from : ℕ → ℕ → Verdict
verdict_from number place =
    cond (eqb number 0) accepted
    (cond (eqb number 1) (refused grid)
    (cond (eqb number 2) (refused lent)
    (cond (eqb number 3) (refused (cover_table place))
    (cond (eqb number 4) (refused (cell_numbers place))
    (cond (eqb number 5) (refused (ring place))
    (cond (eqb number 6) (refused climate)
    (cond (eqb number 7) (refused day_record)
    (cond (eqb number 8) (refused serial_gap)
    (cond (eqb number 9) (refused (state_at place))
    (refused (snowfall place)))))))))))

from_both : (v : Verdict) → verdict_from (verdict_number v) (verdict_place v) ≡ v
unfolding verdict_from verdict_number verdict_place number_of place_of
from_both accepted = refl
from_both (refused grid) = refl
from_both (refused lent) = refl
from_both (refused (cover_table e)) = refl
from_both (refused (cell_numbers i)) = refl
from_both (refused (ring i)) = refl
from_both (refused climate) = refl
from_both (refused day_record) = refl
from_both (refused serial_gap) = refl
from_both (refused (state_at i)) = refl
from_both (refused (snowfall i)) = refl

pub verdict_only : (v u : Verdict) → verdict_number v ≡ verdict_number u → verdict_place v ≡ verdict_place u → v ≡ u
verdict_only v u number place = sym (from_both v) ∙ (λ k. verdict_from (number k) (place k)) ∙ from_both u

-- one test after another
module _ (ts : List Test) where
  pub pass_single : (fits : Bool) (r : Refusal) → fits ≡ true → verdict (single fits r ∷ ts) ≡ verdict ts
  unfolding verdict judged single lowest or_at
  pass_single true r e = refl
  pass_single false r e = absurd (false≢true e)

  pub fail_single : (fits : Bool) (r : Refusal) → fits ≡ false → verdict (single fits r ∷ ts) ≡ refused r
  unfolding verdict judged single lowest or_at
  fail_single true r e = absurd (true≢false e)
  fail_single false r e = refl

  pub pass_many : (t : Test) → lowest t.places t.fails ≡ nowhere → verdict (t ∷ ts) ≡ verdict ts
  unfolding verdict judged
  pass_many t e = rw e refl

  pub fail_many : (t : Test) (i : ℕ) → lowest t.places t.fails ≡ at i → verdict (t ∷ ts) ≡ refused (t.called i)
  unfolding verdict judged
  fail_many t i e = rw e refl

  pub accepted_then : (us : List Test) → verdict us ≡ accepted → verdict (us ++ ts) ≡ verdict ts
  unfolding verdict
  accepted_then [] e = refl
  accepted_then (u ∷ us) e = go (lowest u.places u.fails) refl e (accepted_then us)
    where
      go : (f : Found) → lowest u.places u.fails ≡ f → judged f u.called (verdict us) ≡ accepted
          → (verdict us ≡ accepted → verdict (us ++ ts) ≡ verdict ts) → judged f u.called (verdict (us ++ ts)) ≡ verdict ts
      go (at i) found v rest = absurd (unfold judged in (let z : ◌≡◌ {A = ℕ} 0 1 = cc in omega arith))
      go nowhere found v rest = unfold judged in (rest v)

  pub refused_then : (us : List Test) (why : Refusal) → verdict us ≡ refused why → verdict (us ++ ts) ≡ refused why
  unfolding verdict
  refused_then [] why e = absurd (let z : ◌≡◌ {A = ℕ} 0 1 = cc in omega arith)
  refused_then (u ∷ us) why e = go (lowest u.places u.fails) refl e (refused_then us why)
    where
      go : (f : Found) → lowest u.places u.fails ≡ f → judged f u.called (verdict us) ≡ refused why
          → (verdict us ≡ refused why → verdict (us ++ ts) ≡ refused why) → judged f u.called (verdict (us ++ ts)) ≡ refused why
      go (at i) found v rest = unfold judged in v
      go nowhere found v rest = unfold judged in (rest v)

-- the test has the number, and names its own place
unfoldable pub Named : ℕ → Test → Type 0
Named number t = (i : ℕ) → i < t.places → (number_of (t.called i) ≡ number) × (place_of (t.called i) ≡ i)

-- the tests of a list are numbered one after another
unfoldable pub Numbered : ℕ → List Test → Type 0
Numbered number [] = Unit {0}
Numbered number (t ∷ ts) = Named number t × Numbered (suc number) ts

named_at : (number : ℕ) (ts : List Test) → Numbered number ts → (k : ℕ) → k < length ts → Named (number + k) (test_at ts k)
unfolding Numbered test_at
named_at number [] names k h = absurd (not-suc-le-zero h)
named_at number (t ∷ ts) names zero h = rw add-zero names.0
named_at number (t ∷ ts) names (suc k) h = rw (add-suc, ← suc-add) (named_at (suc number) ts names.1 k (le_of_suc-le-suc h))

numbered_both : (number : ℕ) (ts us : List Test) → Numbered number ts → Numbered (number + length ts) us → Numbered number (ts ++ us)
unfolding Numbered
numbered_both number [] us first then = rw add-zero at then
numbered_both number (t ∷ ts) us first then =
    (first.0, numbered_both (suc number) ts us first.1 (rw (add-suc, ← suc-add) at then))

pub numbered_front : (number : ℕ) (ts us : List Test) → Numbered number (ts ++ us) → Numbered number ts
unfolding Numbered
numbered_front number [] us names = tt
numbered_front number (t ∷ ts) us names = (names.0, numbered_front (suc number) ts us names.1)

pub numbered_rest : (number : ℕ) (ts us : List Test) → Numbered number (ts ++ us) → Numbered (number + length ts) us
unfolding Numbered
numbered_rest number [] us names = rw add-zero names
numbered_rest number (t ∷ ts) us names = rw (add-suc, ← suc-add) (numbered_rest (suc number) ts us names.1)

-- the number of a refusal is that of one of the tests
pub number_within : (number : ℕ) (ts : List Test) → Numbered number ts → (why : Refusal) → verdict ts ≡ refused why
    → (number ≤ number_of why) × (number_of why < number + length ts)
unfolding Named
number_within number ts names why e =
    let f : FirstFailing ts why = refused_first ts why e in
    let is : number_of why ≡ number + f.k = sym (ap number_of f.named) ∙ (named_at number ts names f.k f.inside f.i f.here.inside).0 in
    (omega arith, omega (arith, f.inside))

-- a row of the paper's table: its test fails at the place and at no lower one, and each test of a lower number passes
pub record Row (ts : List Test) (number place : ℕ) : Type 0 where
  pub k : ℕ
  pub numbered : number ≡ 1 + k
  pub inside : k < length ts
  pub before : (j : ℕ) → j < k → Passes (test_at ts j)
  pub here : FailsAt (test_at ts k) place

-- the number and the place that come back
pub record Answered (v : Verdict) (number place : ℕ) : Type 0 where
  pub why : Refusal
  pub is : v ≡ refused why
  pub number_is : number_of why ≡ number
  pub place_is : place_of why ≡ place

module _ (ts : List Test) (names : Numbered 1 ts) (number place : ℕ) where
  pub answered_row : Answered (verdict ts) number place → Row ts number place
  unfolding Named
  answered_row a =
      let f : FirstFailing ts a.why = refused_first ts a.why a.is in
      let named : (number_of ((test_at ts f.k).called f.i) ≡ 1 + f.k) × (place_of ((test_at ts f.k).called f.i) ≡ f.i)
      = named_at 1 ts names f.k f.inside f.i f.here.inside in
      let at : f.i ≡ place = sym named.1 ∙ ap place_of f.named ∙ a.place_is in
      record {
        k = f.k;
        numbered = sym a.number_is ∙ sym (ap number_of f.named) ∙ named.0;
        inside = f.inside;
        before = f.before;
        here = subst (FailsAt (test_at ts f.k)) at f.here;
      }

  pub row_answered : Row ts number place → Answered (verdict ts) number place
  unfolding Named
  row_answered row =
      let named : (number_of ((test_at ts row.k).called place) ≡ 1 + row.k) × (place_of ((test_at ts row.k).called place) ≡ place)
      = named_at 1 ts names row.k row.inside place row.here.inside in
      record {
        why = (test_at ts row.k).called place;
        is = first_at ts row.k place row.inside row.before row.here;
        number_is = named.0 ∙ sym row.numbered;
        place_is = named.1;
      }

zeroth : (i : ℕ) → i < 1 → 0 ≡ i
zeroth i h = omega arith

pub setup_numbered : (s : Setup) (lengths : List ℕ) → Numbered 1 (setup_tests s lengths)
unfolding Numbered Named setup_tests map_tests single number_of place_of
setup_numbered s lengths = (
  λ i h. (refl, zeroth i h),
  (
    λ i h. (refl, zeroth i h),
    (
      λ i h. (refl, refl),
      (
        λ i h. (refl, refl),
        (
          λ i h. (refl, refl),
          (λ i h. (refl, zeroth i h), tt),
        ),
      ),
    ),
  ),
)

pub day_numbered : (s : Setup) (lengths : List ℕ) (st : State) (d : Day) → Numbered 1 (setup_tests s lengths ++ day_tests s st d)
unfolding Numbered Named setup_tests map_tests day_tests single number_of place_of
day_numbered s lengths st d =
    numbered_both 1 (setup_tests s lengths) (day_tests s st d) (setup_numbered s lengths)
    (λ i h. (refl, zeroth i h), (λ i h. (refl, zeroth i h), (λ i h. (refl, refl), (λ i h. (refl, refl), tt))))
