-- What an accepted setup is known to be: its limits, cell by cell, and that its directions are ways out on a grid without rings. Each fact is
-- read off the test that would have failed otherwise; a cell that points to a cell points inside, since a step that does not cross the edge
-- keeps the row below the height and the column below the width.
use mathlib.Core.Path.{◌≡◌, refl, sym, ap, ◌∙◌, subst}
use mathlib.Core.Bool.{Bool, true, false, ◌&&◌, false≢true}
use mathlib.Core.List.{List, ◌++◌}
use Prim.Native.Nat.{ℕ, zero, suc, ◌+◌, ◌*◌, ◌/◌, ◌%◌, ◌≤◌, ◌<◌}
use native.Mathlib.Nat.{le_trans, not-suc-le-zero, mul-le-mul, mul-le-mul_right, mod-lt, div-lt_iff_lt-mul, mul_comm, zero-lt-suc}
use native.Mathlib.Omega.{arith}
use lib.Dec.{eqb, leb, ltb, lit<, lit≤}
use lib.ListN.{length, get_or, get_or-eq_default}
use borrow.Author.Tests.{leb-true, ltb-true, eqb-true, ne_eqb, not-false}
use Rattle.theory.specs.Lowest.{Found, at, nowhere, lowest, some, is_found}
use Rattle.theory.specs.Ways.{OneWay, UpslopeFirst, on_ring}
use Rattle.theory.proofs.Cases.{by_cases, and_left, and_right, cond_true, cond_false}
use Rattle.theory.proofs.LowestLaws.{lowest_at, none_lowest}
use Rattle.theory.proofs.WayLaws.{ring_free, free_order}
use Rattle.paper.specs.Limits.{most_cells, most_interception}
use Rattle.paper.specs.Covers.{entries, size_fits, entry_fits, group_fits, code_of, growing_of, dormant_of}
use Rattle.paper.specs.Directions.{Step, less, same, more, Way, toward, closed, stepped, Goes, to, leaves, stays, open_water, cell_at, goes_by, way_of}
use Rattle.paper.specs.Setup.{Setup, Cell, cell, cells, cells_of, grid_fits, climate_fits, cover_of, group_of, entry_of, place_or, cell_fits, is_open, goes, pointed, is_closed, next}
use Rattle.paper.specs.Refusals.{Refusal, Test, accepted, verdict, single, one_each, cover_places, cover_fits, setup_tests, map_tests}
use Rattle.paper.proofs.RefusalLaws.{Passes, test_at, accepted_passes}

-- what tests 1, 3 and 4 leave standing
pub record Charted (s : Setup) : Type 0 where
  pub wide : 1 ≤ s.grid.width
  pub high : 1 ≤ s.grid.height
  pub few : cells s ≤ most_cells
  pub sized : size_fits s.covers ≡ true
  pub entered : (e : ℕ) → e < entries s.covers → entry_fits s.covers e ≡ true
  pub celled : (i : ℕ) → i < cells s → cell_fits s i ≡ true

-- what tests 1 to 6 leave standing, with the lengths of the lent slices
pub record Sound (s : Setup) (lengths : List ℕ) : Type 0 where
  pub charted : Charted s
  pub lent : one_each (cells s) lengths ≡ true
  pub ringless : (i : ℕ) → i < cells s → on_ring (cells s) (next s) i ≡ false
  pub climate : climate_fits s.climate ≡ true

single_passes : (fits : Bool) (r : Refusal) → Passes (single fits r) → fits ≡ true
unfolding Passes single
single_passes fits r p = not-false fits (p 0 (zero-lt-suc 0))

module _ (s : Setup) (lengths : List ℕ) (more : List Test) (e : verdict (setup_tests s lengths ++ more) ≡ accepted) where
  passes : (k : ℕ) → k < 6 → Passes (test_at (setup_tests s lengths ++ more) k)
  unfolding setup_tests map_tests
  passes k h = accepted_passes (setup_tests s lengths ++ more) e k (le_trans h (omega arith))

  covered : (e : ℕ) → e < cover_places s.covers → (size_fits s.covers && entry_fits s.covers e) ≡ true
  unfolding setup_tests map_tests test_at Passes cover_fits
  covered e h = not-false _ (passes 2 (lit< tt) e h)

  covered_size : size_fits s.covers ≡ true
  unfolding cover_places
  covered_size =
      by_cases (size_fits s.covers) (λ t. t)
      (λ f. and_left _ _ (covered 0 (rw (cond_false (size_fits s.covers) f) (zero-lt-suc 0))))

  pub sound : Sound s lengths
  unfolding setup_tests map_tests test_at Passes grid_fits cover_places
  sound =
      let grid : grid_fits s.grid ≡ true = single_passes _ _ (passes 0 (lit< tt)) in
      record {
        charted =
            record {
              wide = leb-true _ _ (and_left _ _ (and_left _ _ grid));
              high = leb-true _ _ (and_right (leb 1 s.grid.width) _ (and_left _ _ grid));
              few = leb-true _ _ (and_right (leb 1 s.grid.width && leb 1 s.grid.height) _ grid);
              sized = covered_size;
              entered = λ e h. and_right (size_fits s.covers) _ (covered e (rw (cond_true (size_fits s.covers) covered_size) h));
              celled = λ i h. not-false _ (passes 3 (lit< tt) i h);
            };
        lent = single_passes _ _ (passes 1 (lit< tt));
        ringless = passes 4 (lit< tt);
        climate = single_passes _ _ (passes 5 (lit< tt));
      }

-- a cell that points to a cell points inside the grid
stepped_inside : (size : ℕ) (step : Step) (k m : ℕ) → k < size → stepped size step k ≡ at m → m < size
unfolding stepped
stepped_inside size less zero m h e = absurd (let z : ◌≡◌ {A = ℕ} 0 1 = cc in omega arith)
stepped_inside size less (suc k) m h e = let same : k ≡ m = cc in omega arith
stepped_inside size same k m h e = let eq : k ≡ m = cc in omega arith
stepped_inside size more k m h e =
    by_cases (ltb (suc k) size)
    (λ t. let eq : suc k ≡ m = at_inj _ _ (sym (cond_true (ltb (suc k) size) t _ _) ∙ e) in subst (λ (x : ℕ). x < size) eq (ltb-true _ _ t))
    (λ f. absurd (at_not (sym e ∙ cond_false (ltb (suc k) size) f _ _)))
  where
    at_inj : (a b : ℕ) → ◌≡◌ {A = Found} (at a) (at b) → a ≡ b
    at_inj a b p = cc

    at_not : {a : ℕ} → at a ≡ nowhere → ⊥
    at_not p = let z : ◌≡◌ {A = ℕ} 0 1 = cc in omega arith

cell_inside : (width height : ℕ) (row column : Found) (j : ℕ) → ((r : ℕ) → row ≡ at r → r < height)
    → ((c : ℕ) → column ≡ at c → c < width) → cell_at width row column ≡ to j → j < width * height
unfolding cell_at
cell_inside width height (at r) (at c) j hr hc e =
    let eq : r * width + c ≡ j = cc in
    let rows : suc r * width ≤ height * width = mul-le-mul_right width (hr r refl) in
    let column : c < width = hc c refl in
    omega arith
cell_inside width height (at r) nowhere j hr hc e = absurd (let z : ◌≡◌ {A = ℕ} 0 1 = cc in omega arith)
cell_inside width height nowhere (at c) j hr hc e = absurd (let z : ◌≡◌ {A = ℕ} 0 1 = cc in omega arith)
cell_inside width height nowhere nowhere j hr hc e = absurd (let z : ◌≡◌ {A = ℕ} 0 1 = cc in omega arith)

goes_inside : (width height i : ℕ) (way : Way) (j : ℕ) → 1 ≤ width → i < width * height
    → goes_by width height i way ≡ to j → j < width * height
unfolding goes_by
goes_inside width height i (toward down right) j w h e =
    cell_inside width height _ _ j
    (λ r. stepped_inside height down (i / width) r ((div-lt_iff_lt-mul w).1 (subst (λ (x : ℕ). i < x) (mul_comm width height) h)))
    (λ c. stepped_inside width right (i % width) c (mod-lt i w)) e
goes_inside width height i closed j w h e = absurd (let z : ◌≡◌ {A = ℕ} 0 1 = cc in omega arith)

-- what is known of one cell's numbers
pub record SoundCell (c : Cell) : Type 0 where
  pub least_N : 30 ≤ c.N
  pub most_N : c.N ≤ 100
  pub capacity : c.capacity ≤ 600000
  pub largest : c.largest ≤ 100000
  pub growing : c.growing_figure ≤ 10000
  pub dormant : c.dormant_figure ≤ 10000

-- an entry that fits has each group's numbers within their limits
group_fits_lem : (covers : List ℕ) (e g : ℕ) → entry_fits covers e ≡ true → 1 ≤ g → g ≤ 4 → group_fits covers e g ≡ true
unfolding entry_fits
group_fits_lem covers e zero fits low high = absurd (not-suc-le-zero low)
group_fits_lem covers e (suc zero) fits low high = search (and_left, and_right) depth 9
group_fits_lem covers e (suc (suc zero)) fits low high = search (and_left, and_right) depth 9
group_fits_lem covers e (suc (suc (suc zero))) fits low high = search (and_left, and_right) depth 9
group_fits_lem covers e (suc (suc (suc (suc zero)))) fits low high = search (and_left, and_right) depth 9
group_fits_lem covers e (suc (suc (suc (suc (suc g))))) fits low high = absurd (omega arith)

interception_fits : (covers : List ℕ) (e : ℕ) → entry_fits covers e ≡ true
    → (growing_of covers e ≤ most_interception) × (dormant_of covers e ≤ most_interception)
unfolding entry_fits
interception_fits covers e fits = (leb-true _ _ (search (and_left, and_right)), leb-true _ _ (search (and_left, and_right)))

open_not_to : {j : ℕ} → open_water ≡ to j → ⊥
open_not_to e = let z : ◌≡◌ {A = ℕ} 0 1 = cc in omega arith

-- by its byte no cell has the number of open water
not_open : (width height i : ℕ) (w : Way) {n : ℕ} → n ≤ 4096 → ((j : ℕ) → goes_by width height i w ≡ to j → j < n)
    → eqb (pointed (goes_by width height i w)) 4098 ≡ false
unfolding goes_by cell_at pointed
not_open width height i closed few inside = refl
not_open width height i (toward down right) {n} few inside = go (stepped height down (i / width)) (stepped width right (i % width)) inside
  where
    go : (row column : Found) → ((j : ℕ) → cell_at width row column ≡ to j → j < n) → eqb (pointed (cell_at width row column)) 4098 ≡ false
    go (at row) (at column) within =
        let low : row * width + column < n = within (row * width + column) refl in
        ne_eqb (row * width + column) 4098 (λ (same : row * width + column ≡ 4098). omega arith)
    go (at row) nowhere within = refl
    go nowhere (at column) within = refl
    go nowhere nowhere within = refl

module _ (s : Setup) (ok : Charted s) where
  -- a cell's entry is in the table, and has its code
  pub entry_in : (i : ℕ) → i < cells s → (entry_of s i < entries s.covers) × (code_of s.covers (entry_of s i) ≡ cover_of s i)
  unfolding entry_of place_or cell_fits some is_found
  entry_in i h = go (lowest (entries s.covers) coded) refl (and_left _ _ (and_left _ _ (ok.celled i h)))
    where
      coded : ℕ → Bool
      coded e = eqb (code_of s.covers e) (cover_of s i)

      go : (f : Found) → lowest (entries s.covers) coded ≡ f → is_found f ≡ true
          → (place_or (entries s.covers) f < entries s.covers) × (code_of s.covers (place_or (entries s.covers) f) ≡ cover_of s i)
      go (at e) found t =
          let low : (e < entries s.covers) × (coded e ≡ true) × ((j : ℕ) → j < e → coded j ≡ false) = lowest_at _ _ found in
          (low.0, eqb-true _ _ low.1)
      go nowhere found t = absurd (false≢true t)

  pub sound_cell : (i : ℕ) → i < cells s → SoundCell (cell s i)
  unfolding cell cell_fits group_fits
  sound_cell i h =
      let e : ℕ = entry_of s i in
      let fits : entry_fits s.covers e ≡ true = ok.entered e (entry_in i h).0 in
      let here : cell_fits s i ≡ true = ok.celled i h in
      let group : group_fits s.covers e (group_of s i) ≡ true
      = group_fits_lem s.covers e (group_of s i) fits (leb-true _ _ (search (and_left, and_right)))
      (leb-true _ _ (search (and_left, and_right))) in
      record {
        least_N = leb-true _ _ (search (and_left, and_right));
        most_N = leb-true _ _ (search (and_left, and_right));
        capacity =
            mul-le-mul {n₂ = 600} {m₂ = 1000} (leb-true _ _ (search (and_left, and_right))) (leb-true _ _ (search (and_left, and_right)));
        largest = leb-true _ _ (search (and_left, and_right));
        growing = (interception_fits s.covers e fits).0;
        dormant = (interception_fits s.covers e fits).1;
      }

  -- an open-water cell points nowhere, and any other goes by its byte
  pub goes_open : (i : ℕ) → is_open s i ≡ true → goes s i ≡ open_water
  unfolding goes
  goes_open i e = cond_true (is_open s i) e _ _

  pub goes_land : (i : ℕ) → is_open s i ≡ false → goes s i ≡ goes_by s.grid.width s.grid.height i (way_of (get_or s.direction i 0))
  unfolding goes
  goes_land i e = cond_false (is_open s i) e _ _

  pub to_inside : (i j : ℕ) → i < cells s → goes s i ≡ to j → j < cells s
  unfolding cells_of
  to_inside i j h e =
      by_cases (is_open s i) (λ o. absurd (open_not_to (sym (goes_open i o) ∙ e)))
      (λ o. goes_inside s.grid.width s.grid.height i _ j ok.wide h (sym (goes_land i o) ∙ e))

  -- no cell but a closed depression has the number 4,097
  pub closed_by_lem : (i : ℕ) → i < cells s → is_closed (goes s i) ≡ eqb (next s i) 4097
  unfolding next pointed is_closed
  closed_by_lem i h = go (goes s i) (λ j. to_inside i j h)
    where
      go : (g : Goes) → ((j : ℕ) → g ≡ to j → j < cells s) → is_closed g ≡ eqb (pointed g) 4097
      go (to j) inside =
          let few : cells s ≤ 4096 = ok.few in
          let low : j < cells s = inside j refl in
          sym (ne_eqb j 4097 (λ (same : j ≡ 4097). omega arith))
      go leaves inside = refl
      go stays inside = refl
      go open_water inside = refl

  -- and none but open water 4,098
  pub open_by : (i : ℕ) → i < cells s → is_open s i ≡ eqb (next s i) 4098
  unfolding next pointed
  open_by i h =
      by_cases (is_open s i) (λ o. rw (goes_open i o, o) refl)
      (λ o. o ∙ sym (rw (goes_land i o)
      (not_open s.grid.width s.grid.height i (way_of (get_or s.direction i 0)) ok.few (λ j q. to_inside i j h (goes_land i o ∙ q)))))

  -- past the last cell nothing points inside: there is no cover code, the table has none for it, and its direction is none of the eight
  module _ (each : length s.direction ≡ cells s) (covered : length s.cover ≡ cells s) where
    uncoded : (e : ℕ) → e < entries s.covers → eqb (code_of s.covers e) 0 ≡ false
    unfolding entry_fits
    uncoded e h =
        let fits : entry_fits s.covers e ≡ true = ok.entered e h in
        let low : 1 ≤ code_of s.covers e = leb-true _ _ (search (and_left, and_right) depth 9) in
        ne_eqb _ _ (λ (z : code_of s.covers e ≡ 0). omega arith)

    past_entry : (i : ℕ) → cells s ≤ i → entry_of s i ≡ entries s.covers
    unfolding entry_of place_or
    past_entry i h =
        ap (place_or (entries s.covers))
        (none_lowest (entries s.covers) (λ e. eqb (code_of s.covers e) (cover_of s i))
        (λ e l. rw (get_or-eq_default s.cover 0 {n = i} (rw covered h)) (uncoded e l)))

    past_land : (i : ℕ) → cells s ≤ i → is_open s i ≡ false
    unfolding is_open size_fits entries
    past_land i h =
        let whole : length s.covers % 16 ≡ 0 = eqb-true _ _ (and_left _ _ ok.sized) in
        rw (past_entry i h, get_or-eq_default s.covers 0 {n = 16 * (length s.covers / 16) + 1} (omega arith)) refl

    past : (i : ℕ) → cells s ≤ i → goes s i ≡ stays
    unfolding way_of goes_by
    past i h =
        goes_land i (past_land i h)
        ∙ ap (λ (byte : ℕ). goes_by s.grid.width s.grid.height i (way_of byte))
        (get_or-eq_default s.direction 0 (rw each h))

    pub next_past : (i : ℕ) → cells s ≤ i → next s i ≡ 4097
    unfolding next pointed
    next_past i h = ap pointed (past i h)

    pub ways : OneWay (cells s) (next s)
    ways = record { outside = λ i h. rw (next_past i h) (le_trans ok.few (lit≤ tt)) }

pub upslope : (s : Setup) (lengths : List ℕ) → Sound s lengths → length s.direction ≡ cells s → length s.cover ≡ cells s
    → UpslopeFirst (cells s) (next s)
upslope s lengths ok each covered =
    let out : OneWay (cells s) (next s) = ways s ok.charted each covered in
    free_order (cells s) (next s) (ring_free (cells s) (next s) ok.ringless out) out
