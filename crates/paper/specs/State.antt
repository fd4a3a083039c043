-- The state, the day record, and their limits.
use Rattle.std.specs.Prelude.{Bool, true, cond, ◌&&◌, List, ℕ, ◌+◌, eqb, leb, ℤ, get_or}
use Rattle.std.specs.Int.Signed.{le_z}
use Rattle.theory.specs.Lists.{made}
use Rattle.paper.specs.Limits.{
  within,
  withinℤ,
  last_day_of_year,
  most_snow,
  most_gross,
  most_serial,
  most_frost,
  least_temperature,
  most_temperature,
  most_potential,
}
use Rattle.paper.specs.Setup.{Setup, Cell, cell, cells}
use Rattle.paper.specs.Frost.{frost_after}

-- the gross precipitation of the five previous days
pub record Memory : Type 0 where
  pub oldest : ℕ
  pub fourth : ℕ
  pub third : ℕ
  pub second : ℕ
  pub yesterday : ℕ

-- the oldest figure dropped and today's gross figure added
unfoldable pub remembered : Memory → ℕ → Memory
remembered m gross =
    record { oldest = m.fourth; fourth = m.third; third = m.second; second = m.yesterday; yesterday = gross }

unfoldable pub five_days : Memory → ℕ
five_days m = m.oldest + m.fourth + m.third + m.second + m.yesterday

abbrev pub no_rain : Memory
no_rain = record { oldest = 0; fourth = 0; third = 0; second = 0; yesterday = 0 }

-- the last serial, or none
pub data Last : Type 0 where
  none : Last
  serial : ℕ → Last

-- what a state has besides its stores
pub record Past : Type 0 where
  pub memory : Memory
  pub last : Last
  -- the frost index of the whole grid
  pub frost : ℕ

-- five zeros, none, and no frost
abbrev pub no_past : Past
no_past = record { memory = no_rain; last = none; frost = 0 }

pub record State : Type 0 where
  -- one entry a cell
  pub soil : List ℕ
  pub snow : List ℕ
  pub past : Past

pub record Day : Type 0 where
  pub serial : ℕ
  pub day_of_year : ℕ
  pub gross : ℕ
  pub minimum : ℤ
  pub mean : ℤ
  pub maximum : ℤ
  -- potential evapotranspiration
  pub potential : ℕ

-- after an accepted day: its gross figure is remembered, its serial is the last, and the frost index is the one that it set
abbrev pub past_after : Past → Day → Past
past_after p d =
    record { memory = remembered p.memory d.gross; last = serial d.serial; frost = frost_after p.frost d.mean }

-- soil 0 to the cell's capacity, 0 on open water
unfoldable pub most_soil_of : Cell → ℕ
most_soil_of c = cond c.open? 0 c.capacity

-- snow 0 to 10,000,000, 0 on open water
unfoldable pub most_snow_of : Cell → ℕ
most_snow_of c = cond c.open? 0 most_snow

abbrev pub soil_at : State → ℕ → ℕ
soil_at st i = get_or st.soil i 0

abbrev pub snow_at : State → ℕ → ℕ
snow_at st i = get_or st.snow i 0

unfoldable pub stores_fit : Setup → State → ℕ → Bool
stores_fit s st i = leb (soil_at st i) (most_soil_of (cell s i)) && leb (snow_at st i) (most_snow_of (cell s i))

unfoldable pub memory_fits : Memory → Bool
memory_fits m =
    leb m.oldest most_gross
    && leb m.fourth most_gross
    && leb m.third most_gross
    && leb m.second most_gross
    && leb m.yesterday most_gross

unfoldable pub last_fits : Last → Bool
last_fits none = true
last_fits (serial n) = leb n most_serial

unfoldable pub past_fits : Past → Bool
past_fits p = memory_fits p.memory && last_fits p.last && leb p.frost most_frost

unfoldable pub day_fits : Day → Bool
day_fits d =
    leb d.serial most_serial
    && within 1 last_day_of_year d.day_of_year
    && leb d.gross most_gross
    && withinℤ least_temperature most_temperature d.minimum
    && withinℤ least_temperature most_temperature d.mean
    && withinℤ least_temperature most_temperature d.maximum
    && le_z d.minimum d.mean
    && le_z d.mean d.maximum
    && leb d.potential most_potential

-- one more than the last unless there is none
unfoldable pub follows : Last → ℕ → Bool
follows none n = true
follows (serial m) n = eqb n (m + 1)

-- soil full (0 on open water), snow 0, five zeros, none, no frost
unfoldable pub fresh_state : Setup → State
fresh_state s =
    record {
      soil = made (cells s) (λ i. most_soil_of (cell s i));
      snow = made (cells s) (λ i. 0);
      past = no_past;
    }
