-- Worked examples: depths with and without zeros to fill in, and a day's two lines.
use Rattle.std.specs.Prelude.{◌++◌, ◌≡◌}
use Rattle.words.specs.Digits.{bytes}
use Rattle.paper.specs.Reasons.{because, all_recharged}
use Rattle.words.specs.Inches.{inches}
use Rattle.explained.specs.Lines.{why_lines}

pub record Examples : Type 0 where
  pub nothing : inches 0 ≡ bytes "0.0000"
  pub one_unit : inches 7 ≡ bytes "0.0007"
  pub below_an_inch : inches 2607 ≡ bytes "0.2607"
  pub one_inch : inches 10000 ≡ bytes "1.0000"
  pub over_an_inch : inches 12345 ≡ bytes "1.2345"
  pub zeros_inside : inches 1000405 ≡ bytes "100.0405"
  -- the ridge's fourth day
  pub day :
      why_lines 4 (because all_recharged 2607 3000)
      (record { intercepted = 0; outflow = 7393; evapotranspired = 2000; recharged = 2607; rejected = 0; soil = 18000; snow = 0 })
      ≡ bytes "serial 4: all the excess recharged: excess 0.2607, largest 0.3000 inches\n"
      ++ bytes "  intercepted 0.0000, outflow 0.7393, evapotranspired 0.2000, recharged 0.2607, rejected 0.0000; soil 1.8000, snow 0.0000 inches\n"
