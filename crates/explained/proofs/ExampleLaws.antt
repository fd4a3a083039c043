-- The worked examples hold: each is computed.
use mathlib.Core.Path.{refl}
use Rattle.words.specs.Digits.{digits_within, digits, bytes}
use Rattle.words.specs.Inches.{four_digits, inches}
use Rattle.explained.specs.Lines.{say, reason_words, second_words, reason_line, figures_line, why_lines}
use Rattle.explained.specs.Examples.{Examples}

pub examples : Examples
unfolding why_lines reason_line reason_words second_words figures_line say inches four_digits digits digits_within bytes
examples =
    record { nothing = refl; one_unit = refl; below_an_inch = refl; one_inch = refl; over_an_inch = refl; zeros_inside = refl; day = refl }
