-- Tests 3 to 6 one after another: where each fails, the verdict is its refusal; where all pass, the arrays hold every cell's slot, where it points,
-- and an order of the cells.
use mathlib.Core.Path.{◌≡◌, refl, sym, ap, ◌∙◌}
use mathlib.Core.Bool.{true, false, not}
use mathlib.Core.List.{List, [], ◌∷◌, ◌++◌}
use Prim.Native.Nat.{ℕ, ◌*◌, ◌<◌}
use native.Mathlib.Omega.{arith}
use lib.ListN.{length, drop}
use borrow.Author.Tests.{not-false}
use Rattle.theory.specs.Lists.{made_over}
use Rattle.theory.specs.Lowest.{at, nowhere, lowest}
use Rattle.theory.specs.Ways.{on_ring}
use Rattle.theory.proofs.ListLaws.{made_cong, over_length}
use Rattle.theory.proofs.LowestLaws.{lowest_none, lowest_cong}
use Rattle.paper.specs.Covers.{entries}
use Rattle.paper.specs.Setup.{Setup, cells, cells_of, cell_fits, climate_fits, next}
use Rattle.paper.specs.Refusals.{Refusal, Verdict, cell_numbers, ring, climate, accepted, refused, Test, verdict, single, cover_test, map_tests}
use Rattle.paper.proofs.RefusalLaws.{pass_single, fail_single, pass_many, fail_many, accepted_then, refused_then}
use Rattle.records.proofs.PlaceLaws.{found_at, found_no}
use Rattle.records.specs.Verdicts.{refusal_in, verdict_in}
use Rattle.survey.specs.Charts.{Surveyable, Chart, slot_of, next_as, WaysFit, OrderedBy}
use Rattle.survey.specs.Order.{Counted, OrderOrRing}
use Rattle.survey.specs.Cells.{slot_at, way_at, Layable, LaidOrBad}
use Rattle.std.specs.Prelude.{Option, Some, None, Ok, Err}
use Rattle.paper.proofs.SetupLaws.{Charted, next_past}
use Rattle.survey.proofs.SlotLaws.{index_fits, index_entered, slot_test, slot_is}
use Rattle.survey.proofs.CellLaws.{way_is}
use Rattle.survey.proofs.CountLaws.{ways_next, count_by}
use Rattle.records.specs.Verdicts as code
use Rattle.covers.specs.Table.{EntriesFit, index_of}
use Rattle.covers.proofs.TableLaws.{accepted_table}
use Rattle.records.specs.Places.{place_in}

module _ (s : Setup) where
  abbrev cell_test : Test
  cell_test = record { places = cells s; fails = λ i. not (cell_fits s i); called = cell_numbers }

  abbrev ring_test : Test
  ring_test = record { places = cells s; fails = λ i. on_ring (cells s) (next s) i; called = ring }

  -- the tests after the cover table's
  abbrev later : List Test
  later = cell_test ∷ ring_test ∷ single (climate_fits s.climate) climate ∷ []

  -- a refusal, in the code's own words
  refuse : (lent ways₀ : List ℕ) (why : Refusal) (slots ways order : List ℕ) → verdict (map_tests s) ≡ refused why
      → Chart s lent ways₀ (Err (refusal_in why)) slots ways order
  refuse lent ways₀ why slots ways order v =
      record {
        verdict_is = sym (ap verdict_in v);
        mapped = λ a. absurd (let z : ◌≡◌ {A = ℕ} 0 1 = cc in omega arith);
      }

  pub table_refuses : (lent ways₀ : List ℕ) (r : code.Verdict) (slots ways order : List ℕ) → r ≡ verdict_in (verdict (cover_test s.covers ∷ []))
      → (r ≡ Ok tt → ⊥) → Chart s lent ways₀ r slots ways order
  unfolding map_tests
  table_refuses lent ways₀ r slots ways order e not = go (verdict (cover_test s.covers ∷ [])) refl
    where
      go : (v : Verdict) → verdict (cover_test s.covers ∷ []) ≡ v → Chart s lent ways₀ r slots ways order
      go accepted q = absurd (not (e ∙ ap verdict_in q))
      go (refused why) q =
          rw (e ∙ ap verdict_in q) (refuse lent ways₀ why slots ways order (refused_then later (cover_test s.covers ∷ []) why q))

  module _ (table : verdict (cover_test s.covers ∷ []) ≡ accepted) where
    covers_pass : verdict (map_tests s) ≡ verdict later
    unfolding map_tests
    covers_pass = accepted_then later (cover_test s.covers ∷ []) table

    cell_bad : (i : ℕ) → lowest (cells s) (λ k. not (cell_fits s k)) ≡ at i → verdict (map_tests s) ≡ refused (cell_numbers i)
    cell_bad i found = covers_pass ∙ fail_many _ cell_test i found

    module _ (fit : lowest (cells s) (λ k. not (cell_fits s k)) ≡ nowhere) where
      cells_pass : verdict (map_tests s) ≡ verdict (ring_test ∷ single (climate_fits s.climate) climate ∷ [])
      cells_pass = covers_pass ∙ pass_many _ cell_test fit

      ring_bad : (i : ℕ) → lowest (cells s) (on_ring (cells s) (next s)) ≡ at i → verdict (map_tests s) ≡ refused (ring i)
      ring_bad i found = cells_pass ∙ fail_many _ ring_test i found

      module _ (free : lowest (cells s) (on_ring (cells s) (next s)) ≡ nowhere) where
        climate_bad : climate_fits s.climate ≡ false → verdict (map_tests s) ≡ refused climate
        climate_bad e = cells_pass ∙ pass_many _ ring_test free ∙ fail_single _ _ climate e

        all_pass : climate_fits s.climate ≡ true → verdict (map_tests s) ≡ accepted
        unfolding verdict
        all_pass e = cells_pass ∙ pass_many (single (climate_fits s.climate) climate ∷ []) ring_test free ∙ pass_single [] _ climate e

-- the arrays, stage by stage
module _ (s : Setup) (lent ways₀ : List ℕ) (pre : Surveyable s) (table : verdict (cover_test s.covers ∷ []) ≡ accepted)
    (index : List ℕ) (known : index ≡ index_of s.covers (entries s.covers))
    (slots_sized : length lent ≡ 4096) (ways_sized : length ways₀ ≡ 4096) where
  fit : EntriesFit s.covers
  fit = accepted_table s.covers table

  abbrev slot : ℕ → ℕ
  slot = slot_at index s.cover s.group s.available

  abbrev way : ℕ → ℕ
  way = way_at s.grid.width s.grid.height s.covers slot s.direction

  pub lay_ask : Layable s.grid.width s.grid.height index s.covers s.direction s.cover s.group s.available lent ways₀
  unfolding cells_of
  lay_ask =
      record {
        wide = pre.wide;
        few = pre.few;
        indexed = index_fits s.covers index fit known;
        entered = index_entered s.covers index fit known;
        directions = pre.directions;
        coded = pre.covers;
        grouped = pre.groups;
        watered = pre.waters;
        slots_sized = slots_sized;
        ways_sized = ways_sized;
      }

  module _ (r : Option ℕ) (slots ways counts : List ℕ) (lb : LaidOrBad (s.grid.width * s.grid.height) slot way r lent slots ways₀ ways counts) where
    search_is : r ≡ place_in (lowest (cells s) (λ i. not (cell_fits s i)))
    unfolding cells_of
    search_is = lb.lowest_bad ∙ ap place_in (lowest_cong (cells s) _ _ (λ i h. slot_test s index fit known i))

    pub cell_refuses : (i : ℕ) (order : List ℕ) → r ≡ Some i → Chart s lent ways₀ (Err (refusal_in (cell_numbers i))) slots ways order
    cell_refuses i order e = refuse s lent ways₀ (cell_numbers i) slots ways order (cell_bad s table i (found_at _ i (sym e ∙ search_is)))

    module _ (through : r ≡ None) where
      cells_fit : lowest (cells s) (λ k. not (cell_fits s k)) ≡ nowhere
      cells_fit = found_no _ (sym through ∙ search_is)

      charted : Charted s
      charted =
          record {
            wide = pre.wide;
            high = pre.high;
            few = pre.few;
            sized = fit.sized;
            entered = fit.fit;
            celled = λ i h. not-false _ (lowest_none _ _ cells_fit i h);
          }

      slot_at_lem : (i : ℕ) → i < cells s → slot i ≡ slot_of s i
      slot_at_lem i h = slot_is s index fit known i (charted.celled i h)

      slots_are : slots ≡ made_over (cells s) (slot_of s) lent
      unfolding made_over cells_of
      slots_are = lb.slotted through ∙ ap (λ (l : List ℕ). l ++ drop (cells s) lent) (made_cong (cells s) slot (slot_of s) slot_at_lem)

      slots_whole : length slots ≡ 4096
      slots_whole = ap length slots_are ∙ over_length (cells s) (slot_of s) lent (omega (arith, slots_sized, pre.few)) ∙ slots_sized

      ways_are : ways ≡ made_over (cells s) (next s) ways₀
      unfolding made_over cells_of
      ways_are =
          lb.laid through
          ∙ ap (λ (l : List ℕ). l ++ drop (cells s) ways₀) (made_cong (cells s) way (next s) (λ i h. sym (way_is s charted i h slot (slot_at_lem i h))))

      ways_whole : length ways ≡ 4096
      ways_whole = ap length ways_are ∙ over_length (cells s) (next s) ways₀ (omega (arith, ways_sized, pre.few)) ∙ ways_sized

      ways_point : next_as (cells s) ways ≡ next s
      ways_point = ap (next_as (cells s)) ways_are ∙ ways_next (cells s) (next s) ways₀ (next_past s charted pre.directions pre.covers)

      counts_are : Counted (cells s) (next_as (cells s) ways) (cells s) counts
      unfolding cells_of
      counts_are = rw ways_point (count_by (lb.counted through) (next s) (λ i h. way_is s charted i h slot (slot_at_lem i h)))

      pub order_ask : WaysFit (length s.direction) ways × Counted (length s.direction) (next_as (length s.direction) ways) (length s.direction) counts
      order_ask = rw pre.directions (record { most = pre.few; sized = ways_whole }, counts_are)

      module _ (found : Option ℕ) (order : List ℕ) (o : OrderOrRing (length s.direction) (next_as (length s.direction) ways) found order) where
        ring_is : found ≡ place_in (lowest (cells s) (on_ring (cells s) (next s)))
        ring_is = rw (pre.directions, ways_point) at o.ring

        -- each way out after the order
        pub ring_refuses : (i : ℕ) → found ≡ Some i → Chart s lent ways₀ (Err (refusal_in (ring i))) slots ways order
        ring_refuses i e = refuse s lent ways₀ (ring i) slots ways order (ring_bad s table cells_fit i (found_at _ i (sym e ∙ ring_is)))

        module _ (straight : found ≡ None) where
          no_ring : lowest (cells s) (on_ring (cells s) (next s)) ≡ nowhere
          no_ring = found_no _ (sym straight ∙ ring_is)

          ordered_by : OrderedBy (cells s) (next s) order
          ordered_by = rw (pre.directions, ways_point) at (o.ordered straight)

          pub climate_refuses : climate_fits s.climate ≡ false → Chart s lent ways₀ (Err (refusal_in climate)) slots ways order
          climate_refuses e = refuse s lent ways₀ climate slots ways order (climate_bad s table cells_fit no_ring e)

          pub surveyed : climate_fits s.climate ≡ true → Chart s lent ways₀ (Ok tt) slots ways order
          surveyed e =
              record {
                verdict_is = sym (ap verdict_in (all_pass s table cells_fit no_ring e));
                mapped =
                    λ a. record {
                      slots_are = slots_are;
                      slots_sized = slots_whole;
                      ways_are = ways_are;
                      ways_sized = ways_whole;
                      ordered = ordered_by;
                    };
              }
