-- What C hands over and gets as the paper's verdict, past and totals.
use Rattle.std.specs.Prelude.{cond, List, [], ◌∷◌, ℕ, ◌+◌, ◌*◌, eqb, get_or, min}
use Rattle.paper.specs.State.{Memory, Last, none, serial, Past}
use Rattle.paper.specs.Refusals.{Verdict, verdict_number, verdict_place}
use Rattle.paper.specs.Day.{Totals}

-- 0 where a call accepts, else number × 2^32 + place
abbrev pub numbered : ℕ → ℕ → ℕ
numbered number place = number * 4294967296 + place

unfoldable pub returned : Verdict → ℕ
returned v = numbered (verdict_number v) (verdict_place v)

-- as the code has it: a place that 32 bits do not hold, which no test gives, is told as the last that they do
unfoldable pub told : Verdict → ℕ
told v = numbered (verdict_number v) (min (verdict_place v) 4294967295)

-- five figures, oldest first
unfoldable pub memory_from : List ℕ → Memory
memory_from l =
    record {
      oldest = get_or l 0 0;
      fourth = get_or l 1 0;
      third = get_or l 2 0;
      second = get_or l 3 0;
      yesterday = get_or l 4 0;
    }

unfoldable pub memory_list : Memory → List ℕ
memory_list m = m.oldest ∷ m.fourth ∷ m.third ∷ m.second ∷ m.yesterday ∷ []

-- the largest number of 32 bits, which is no serial, stands for none
abbrev pub no_serial : ℕ
no_serial = 4294967295

unfoldable pub last_from : ℕ → Last
last_from n = cond (eqb n no_serial) none (serial n)

unfoldable pub last_number : Last → ℕ
last_number none = no_serial
last_number (serial n) = n

-- what a state has besides its stores
unfoldable pub past_from : List ℕ → ℕ → ℕ → Past
past_from memory last frost = record { memory = memory_from memory; last = last_from last; frost = frost }

-- in the paper's order
unfoldable pub totals_list : Totals → List ℕ
totals_list t =
    t.gross
    ∷ t.intercepted
    ∷ t.evapotranspired
    ∷ t.recharged
    ∷ t.rejected
    ∷ t.gone
    ∷ t.stored
    ∷ []
