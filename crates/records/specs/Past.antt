-- What a state has besides its stores, and with the lent stores the paper's state.
use Rattle.std.specs.Prelude.{List, ℕ, Option, Some, None}
use Rattle.paper.specs.State as paper
use Rattle.records.specs.declared.past.Memory.{Memory}
use Rattle.records.specs.declared.past.Past.{Past}

abbrev pub memory_as : Memory → paper.Memory
memory_as m =
    record {
      oldest = m.oldest.0;
      fourth = m.fourth.0;
      third = m.third.0;
      second = m.second.0;
      yesterday = m.yesterday.0;
    }

abbrev pub last_as : Option ℕ → paper.Last
last_as None = paper.none
last_as (Some n) = paper.serial n

abbrev pub past_as : Past → paper.Past
past_as p = record { memory = memory_as p.memory; last = last_as p.last; frost = p.frost.0 }

abbrev pub state_as : List ℕ → List ℕ → Past → paper.State
state_as soil snow past = record { soil = soil; snow = snow; past = past_as past }
