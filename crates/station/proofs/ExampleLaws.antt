-- The worked examples, computed.
use mathlib.Core.Path.{refl}
use lib.Count.{count_trailing_zeros}
use lib.Ieee.{span, climb, size, odd, units, round, neg, sum, add, sub, mul, div, lt, eq, le}
use Rattle.paper.specs.Radiation.{
  decimal,
  whole,
  between,
  mean_fits,
  radiation_fits,
  humidity_fits,
  estimate_fits,
  weather_fits,
  humid,
  dryness,
  turc_of,
  jensen_haise_by,
  jensen_haise_of,
  millimetres,
  units_of,
  floor_of,
  potential_of,
  estimate_number,
  estimated_of,
}
use Rattle.words.specs.Digits.{digits_within, digits, bytes}
use Rattle.words.specs.Numbers.{is_digit, all_digits, spelled, is_first_digit, is_count, is_zero, number}
use Rattle.words.specs.Words.{is_blank, longer, pieces, kept, words, lines_of}
use Rattle.lines.specs.Lines.{row, refused_line}
use Rattle.lines.specs.Reading.{and_then, meant, reading}
use Rattle.station.specs.Readings.{reading_of, celsius_of, is_kind, line_of, line_in}
use Rattle.station.specs.Answers.{estimate_line, answer_to, answers, answered}
use Rattle.station.specs.Examples.{Examples}

pub examples : Examples
unfolding count_trailing_zeros span climb size odd units round neg sum add sub mul div lt eq le decimal whole between mean_fits radiation_fits humidity_fits estimate_fits weather_fits humid dryness turc_of jensen_haise_by jensen_haise_of millimetres units_of floor_of potential_of estimate_number estimated_of digits_within digits bytes is_digit all_digits spelled is_first_digit is_count is_zero number is_blank longer pieces kept words lines_of row refused_line and_then meant reading reading_of celsius_of is_kind line_of line_in estimate_line answer_to answers answered
examples = record { estimates = refl; outside = refl; other_forms = refl; no_lines = refl }
