-- `fields::climate_in` meets its contract: two numbers read, and the program's setpoints.
use Rattle.std.proofs.Common.{refl}
use Rattle.text.proofs.fields.climate_in.Goals as goal

pub returns : goal.returns
returns c = rw (c.number_at-first.ensures, c.number_at-last.ensures) refl
