-- The worked examples of specs/Examples.antt, the paper's own among them, from the input's bytes to the output's: each computes, by every
-- definition of the paper. So the numbers that the paper's example shows are what its bytes are read to.
use mathlib.Core.Path.{◌≡◌, refl}
use mathlib.Core.Bool.{true}
use mathlib.Core.List.{[], ◌∷◌}
use lib.IntN.{pos}
use Rattle.theory.specs.Lists.{made}
use Rattle.theory.specs.Lowest.{or_at, lowest, is_found, some}
use Rattle.theory.specs.Sums.{sum, given}
use Rattle.theory.specs.Ways.{walk, on_ring}
use Rattle.paper.specs.CellDay.{today, figure_of, intercepted_of, net_of, rain_of, store_of, melt_of, own_of, runoff_of, ground_of, passed_of, open_day, land_day, cell_day}
use Rattle.paper.specs.Covers.{entries, size_fits, group_fits, rises, entry_fits}
use Rattle.paper.specs.CurveNumber.{class, condition_of, nearest, curve_number}
use Rattle.paper.specs.Frost.{floor, or_zero, frost_after, not_dry, counted}
use Rattle.paper.specs.Day.{check_of, fresh_as, fresh_of, passed, own, inflow, figures, is_leaving, is_gone, results_of, totals_of, next_state, lengths_of, verdict_of, figures_of, outcome_as, day_of, no_results}
use Rattle.paper.specs.Directions.{way_of, stepped, cell_at, goes_by}
use Rattle.paper.specs.Flow.{arriving, water_from, water}
use Rattle.paper.specs.Interception.{intercepted, net}
use Rattle.paper.specs.Runoff.{beyond_abstraction, spread, runoff}
use Rattle.paper.specs.Refusals.{number_of, place_of, single, judged, verdict, one_each, setup_lengths, cover_places, cover_fits, map_tests, setup_tests, state_fits, too_deep, day_tests}
use Rattle.paper.specs.Retention.{F, between, L, loss}
use Rattle.paper.specs.Setup.{cells_of, grid_fits, season_fits, setpoints_fit, climate_fits, growing, place_or, entry_of, cell_fits, is_open, goes, pointed, next, is_closed, cell}
use Rattle.paper.specs.Snow.{falls_as_snow, above_freezing, meltable, melt}
use Rattle.paper.specs.Soil.{excess, wet_day, dry_day, soil_day}
use Rattle.paper.specs.State.{remembered, five_days, most_soil_of, most_snow_of, stores_fit, memory_fits, last_fits, past_fits, day_fits, follows, fresh_state}
use Rattle.text.specs.Examples.{lines, Agree, paper_input, examples}
use Rattle.words.specs.Digits.{digits_within, digits, bytes}
use Rattle.lines.specs.Lines.{row, day_line, end_line, refused_line, refusal}
use Rattle.text.specs.Program.{cover_count, cell_count, cells_from, days_from, day_count, is_complete, group_given, setup, day_at, day_text, days_text, fresh_text, start_text, run_text, screen, screen_text, numbers_text, form_text, printed}
use Rattle.words.specs.Words.{is_blank, longer, pieces, kept, words}
use Rattle.words.specs.Numbers.{is_digit, all_digits, spelled, is_first_digit, is_count, is_zero, number}
use Rattle.lines.specs.Reading.{and_then, meant, reading, code, codes, signed}

pub paper_read :
    reading (lines paper_input)
    ≡ record {
      numbers =
          pos 2 ∷ pos 1 ∷ pos 120 ∷ pos 270
          ∷ pos 1
          ∷ pos 3 ∷ pos 0 ∷ pos 75 ∷ pos 75 ∷ pos 75 ∷ pos 75 ∷ pos 6000 ∷ pos 6000 ∷ pos 6000 ∷ pos 6000 ∷ pos 900 ∷ pos 0 ∷ pos 250 ∷ pos 250 ∷ pos 250 ∷ pos 250
          ∷ pos 1 ∷ pos 3 ∷ pos 2 ∷ pos 200
          ∷ pos 0 ∷ pos 3 ∷ pos 2 ∷ pos 200
          ∷ pos 1 ∷ pos 150 ∷ pos 30900 ∷ pos 600 ∷ pos 700 ∷ pos 800 ∷ pos 2000
          ∷ pos 2 ∷ pos 151 ∷ pos 0 ∷ pos 600 ∷ pos 700 ∷ pos 800 ∷ pos 2000
          ∷ [];
      whole = true;
    }
unfolding lines bytes reading words pieces longer kept is_blank meant and_then number is_zero is_count is_first_digit is_digit all_digits spelled
paper_read = refl

pub examples_agree : Agree examples
unfolding made or_at lowest is_found some sum given walk on_ring today figure_of intercepted_of net_of rain_of store_of melt_of own_of runoff_of ground_of passed_of open_day land_day cell_day entries size_fits group_fits rises entry_fits class condition_of floor or_zero frost_after not_dry counted nearest curve_number check_of fresh_as fresh_of passed own inflow figures is_leaving is_gone results_of totals_of next_state lengths_of verdict_of figures_of outcome_as day_of way_of stepped cell_at goes_by arriving water_from water intercepted net beyond_abstraction spread runoff number_of place_of single judged verdict one_each setup_lengths cover_places cover_fits map_tests setup_tests state_fits too_deep day_tests F between L loss cells_of grid_fits season_fits setpoints_fit climate_fits growing place_or entry_of cell_fits is_open goes pointed next is_closed cell falls_as_snow above_freezing meltable melt excess wet_day dry_day soil_day remembered five_days most_soil_of most_snow_of stores_fit memory_fits last_fits past_fits day_fits follows fresh_state lines Agree examples digits_within digits row day_line bytes end_line refused_line cover_count cell_count cells_from days_from day_count is_complete group_given setup day_at refusal no_results day_text days_text fresh_text start_text run_text screen screen_text numbers_text form_text printed is_blank longer pieces kept words is_digit all_digits spelled is_first_digit is_count is_zero number and_then meant reading code codes signed
examples_agree = (refl, (refl, (refl, (refl, (refl, (refl, (refl, (refl, (refl, (refl, (refl, (refl, (refl, (refl, (refl, (refl, (refl, (refl, (refl, (refl, (refl, (refl, (refl, (refl, (refl, (refl, tt))))))))))))))))))))))))))
