-- The code's plot of a cell as the numbers that the rules read.
use Rattle.covers.specs.Plots.{Plot}
use Rattle.covers.specs.declared.grounds.Plot as code

abbrev pub plot_as : code.Plot → Plot
plot_as p =
    record {
      intercepted = p.intercepted.0;
      rain = p.rain.0;
      snowfall = p.snowfall.0;
      curve = p.curve_number.0;
      capacity = p.capacity.0;
      largest = p.largest_recharge.0;
    }
