-- The worked examples, computed.
use mathlib.Core.Path.{refl}
use Rattle.paper.specs.Setup.{cells_of, grid_fits}
use Rattle.words.specs.Digits.{digits_within, digits, written, bytes}
use Rattle.words.specs.Inches.{four_digits, inches}
use Rattle.words.specs.Numbers.{is_digit, all_digits, spelled, is_first_digit, is_count, is_zero, number}
use Rattle.words.specs.Words.{is_blank, longer, pieces, kept, words}
use Rattle.grids.specs.Measures.{is_digits, goes_on, is_unsigned, without_minus, is_measure, measured}
use Rattle.grids.specs.Headers.{whole_fits, whole_of, size_of, header_fits, lower, lowered, same, is_name, named, values_in, header_of}
use Rattle.grids.specs.Cells.{wholes, cells_in, is_same, cell_fits, depth_fits, passing}
use Rattle.grids.specs.Judging.{judged}
use Rattle.grids.specs.Forms.{name_line, header_form, blank_after, done_after, rows, grid_form, whole_verdict, inches_verdict}
use Rattle.grids.specs.Reading.{read_verdict}
use Rattle.grids.specs.Examples.{Examples}

pub examples : Examples
unfolding cells_of grid_fits digits_within digits written bytes four_digits inches is_digit all_digits spelled is_first_digit is_count is_zero number is_blank longer pieces kept words is_digits goes_on is_unsigned without_minus is_measure measured whole_fits whole_of size_of header_fits lower lowered same is_name named values_in header_of wholes cells_in is_same cell_fits depth_fits passing judged name_line header_form blank_after done_after rows grid_form whole_verdict inches_verdict read_verdict
examples =
    record {
      measures = refl;
      no_measures = refl;
      whole = refl;
      depths = refl;
      header = refl;
      cells = refl;
      good = refl;
      no_data_lem = refl;
      no_number = refl;
      lower_of_two = refl;
      past_the_last = refl;
      too_many = refl;
      too_few = refl;
      no_room = refl;
      other_name = refl;
      no_columns = refl;
      negative_rows = refl;
      point_last = refl;
      just_room = refl;
      a_byte_short = refl;
      no_data_written = refl;
      nine_digits = refl;
      inches_of_it = refl;
    }
