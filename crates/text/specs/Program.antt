-- The program `balance`: all that it prints for an input, in the order of the paper's tests.
use Rattle.std.specs.Prelude.{Bool, cond, not, ◌&&◌, List, [], ◌∷◌, ◌++◌, ℕ, suc, ◌+◌, ◌*◌, ◌-◌, ◌/◌, ◌%◌, eqb, leb, ltb, ℤ, length, get_or, replicate, Result, Ok, Err}
use Rattle.theory.specs.Lists.{made}
use Rattle.paper.specs.Limits.{within, most_covers}
use Rattle.paper.specs.Setup.{Setpoints, Setup, cells, grid_fits}
use Rattle.paper.specs.State.{State, Day}
use Rattle.paper.specs.Refusals.{Verdict, accepted, refused}
use Rattle.paper.specs.Day.{Results, Outcome, Fresh, no_results, fresh_of, day_of}
use Rattle.lines.specs.Reading.{Reading, reading, most_bytes, negatives, codes, signed}
use Rattle.text.specs.declared.screening.BadText.{BadText}
use Rattle.lines.specs.Lines.{day_line, end_line, refused_line, refusal}

-- a negative direction is a fault of its cell: its group then stands as 0, which is outside 1 to 4
unfoldable pub group_given : ℕ → ℕ → ℕ
group_given direction group = cond (ltb negatives direction) 0 group

-- the setpoints of the frost index that `balance` uses
abbrev pub balance_setpoints : Setpoints
balance_setpoints = record { first = 56000; second = 83000 }

-- The input's numbers are held as their codes, so that a number below zero is past the limits of its field; a temperature has its sign back.
-- In order: width, height, first, last, count of covers; 16 numbers a cover; four a cell; seven a day.
module _ (ns : List ℕ) where
  abbrev pub field : ℕ → ℕ
  field k = get_or ns k 0

  abbrev pub temperature : ℕ → ℤ
  temperature k = signed (field k)

  unfoldable pub cover_count : ℕ
  cover_count = field 4

  unfoldable pub cell_count : ℕ
  cell_count = field 0 * field 1

  unfoldable pub cells_from : ℕ
  cells_from = 5 + 16 * cover_count

  unfoldable pub days_from : ℕ
  days_from = cells_from + 4 * cell_count

  unfoldable pub day_count : ℕ
  day_count = (length ns - days_from) / 7

  -- no number is missing, and the last day is not cut off
  unfoldable pub is_complete : Bool
  is_complete = leb days_from (length ns) && eqb ((length ns - days_from) % 7) 0

  unfoldable pub setup : Setup
  setup =
      record {
        grid = record { width = field 0; height = field 1 };
        climate = record { season = record { first = field 2; last = field 3 }; setpoints = balance_setpoints };
        covers = made (16 * cover_count) (λ k. field (5 + k));
        direction = made cell_count (λ i. field (cells_from + 4 * i));
        cover = made cell_count (λ i. field (cells_from + 4 * i + 1));
        group = made cell_count (λ i. group_given (field (cells_from + 4 * i)) (field (cells_from + 4 * i + 2)));
        available = made cell_count (λ i. field (cells_from + 4 * i + 3));
      }

  unfoldable pub day_at : ℕ → Day
  day_at k =
      record {
        serial = field (days_from + 7 * k);
        day_of_year = field (days_from + 7 * k + 1);
        gross = field (days_from + 7 * k + 2);
        minimum = temperature (days_from + 7 * k + 3);
        mean = temperature (days_from + 7 * k + 4);
        maximum = temperature (days_from + 7 * k + 5);
        potential = field (days_from + 7 * k + 6);
      }

-- one day's line and what follows it, or its refusal
unfoldable pub day_text : ℕ → Outcome → Verdict → List ℕ → List ℕ
day_text serial o accepted later = day_line serial o.totals ++ later
day_text serial o (refused why) later = refusal why

-- the days from state `st` on, `done` of them before
unfoldable pub days_text : Setup → State → Results → ℕ → List Day → List ℕ
days_text s st r done [] = end_line done
days_text s st r done (d ∷ ds) =
    day_text d.serial (day_of s st r d) (day_of s st r d).verdict
    (days_text s (day_of s st r d).state (day_of s st r d).results (suc done) ds)

-- from the fresh state, or its refusal
unfoldable pub fresh_text : Setup → List Day → Fresh → Verdict → List ℕ
fresh_text s ds f accepted = days_text s f.state (no_results (cells s)) 0 ds
fresh_text s ds f (refused why) = refusal why

unfoldable pub start_text : Setup → List Day → Fresh → List ℕ
start_text s ds f = fresh_text s ds f f.verdict

unfoldable pub run_text : List ℕ → List ℕ
run_text ns =
    start_text (setup ns) (made (day_count ns) (day_at ns))
    (fresh_of (setup ns) (replicate (cell_count ns) 0) (replicate (cell_count ns) 0))

abbrev pub unfit : {A : Type 0} → ℕ → ℕ → Result A BadText
unfit number place = Err (record { number = number; place = place })

-- the tests before the run: test 1 and the cover count, each with its missing numbers before it, then the missing numbers of the rest
unfoldable pub screen : List ℕ → Result ℕ BadText
screen ns =
    cond (ltb (length ns) 2) (unfit 11 (length ns))
    (cond (not (grid_fits (setup ns).grid)) (unfit 1 0)
    (cond (ltb (length ns) 5) (unfit 11 (length ns))
    (cond (not (within 1 most_covers (cover_count ns))) (unfit 3 0)
    (cond (not (is_complete ns)) (unfit 11 (length ns)) (Ok (cell_count ns))))))

unfoldable pub screen_text : List ℕ → Result ℕ BadText → List ℕ
screen_text ns (Err why) = refused_line why.number why.place
screen_text ns (Ok cells) = run_text ns

unfoldable pub numbers_text : List ℕ → List ℕ
numbers_text ns = screen_text ns (screen ns)

unfoldable pub form_text : Reading → List ℕ
form_text r = cond r.whole (numbers_text (codes r.numbers)) (refused_line 11 (length r.numbers))

-- length first, then form
unfoldable pub printed : List ℕ → List ℕ
printed text = cond (ltb most_bytes (length text)) (refused_line 11 0) (form_text (reading text))
