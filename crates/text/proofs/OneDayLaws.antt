-- One day of the program: its seven numbers are the paper's record.
use mathlib.Core.Path.{◌≡◌, refl, ap, ◌∙◌}
use mathlib.Core.List.{List}
use Prim.Native.Nat.{ℕ, ◌+◌, ◌*◌, min}
use native.Mathlib.Nat.{add-zero}
use lib.IntN.{ℤ}
use lib.ListN.{length, get_or}
use mir.Syntax.{w32}
use mir.Val.{to_z, of_z}
use Rattle.text.specs.Program.{days_from, day_at}
use Rattle.text.specs.Laying.{degrees, day_from}
use Rattle.text.specs.Run.{Coded}
use Rattle.text.proofs.FieldLaws.{read_on}
use Rattle.text.proofs.SignLaws.{small_degrees, degrees_kept}

-- a day's fields as they are read from its place on, or from the numbers' end, the temperatures as a record keeps them
module _ (ns : List ℕ) (from k at : ℕ) (placed : at ≡ min (from + 7 * k) (length ns)) where
  abbrev kept : ℤ → ℤ
  kept z = to_z w32 (of_z w32 z)

  abbrev place : ℕ → ℕ
  place i = from + 7 * k + i

  read : (x i : ℕ) → x ≡ get_or ns (at + i) 0 → x ≡ get_or ns (place i) 0
  read x i e = e ∙ ap (λ (a : ℕ). get_or ns (a + i) 0) placed ∙ read_on ns (from + 7 * k) i

  degrees_at : (z : ℤ) (x i : ℕ) → x ≡ get_or ns (at + i) 0 → z ≡ degrees x → kept z ≡ degrees (get_or ns (place i) 0)
  degrees_at z x i e d = degrees_kept (get_or ns (place i) 0) z (d ∙ ap degrees (read x i e))

  pub day_fields :
      (serial day_of_year gross minimum mean maximum potential g p : ℕ) (low middle high : ℤ)
      → serial ≡ get_or ns at 0 → day_of_year ≡ get_or ns (at + 1) 0
      → gross ≡ get_or ns (at + 2) 0 → g ≡ gross
      → minimum ≡ get_or ns (at + 3) 0 → low ≡ degrees minimum
      → mean ≡ get_or ns (at + 4) 0 → middle ≡ degrees mean
      → maximum ≡ get_or ns (at + 5) 0 → high ≡ degrees maximum
      → potential ≡ get_or ns (at + 6) 0 → p ≡ potential
      → record {
        serial = serial;
        day_of_year = day_of_year;
        gross = g;
        minimum = kept low;
        mean = kept middle;
        maximum = kept high;
        potential = p;
      }
      ≡ day_from ns from k
  unfolding day_from
  day_fields serial day_of_year gross minimum mean maximum potential g p low middle high s y a ga b lb c mc d hd e pe =
      rw (
        rw (add-zero (from + 7 * k)) at (read serial 0 (rw (add-zero at) s)),
        read day_of_year 1 y,
        ga ∙ read gross 2 a,
        degrees_at low minimum 3 b lb,
        degrees_at middle mean 4 c mc,
        degrees_at high maximum 5 d hd,
        pe ∙ read potential 6 e,
      )
      refl

-- of an input's numbers it is the paper's day
pub coded_day : (ns : List ℕ) (from k : ℕ) → Coded ns → from ≡ days_from ns → day_from ns from k ≡ day_at ns k
unfolding day_from day_at
coded_day ns from k coded start =
    rw (start, small_degrees (get_or ns (days_from ns + 7 * k + 3) 0) (coded.small _), small_degrees (get_or ns (days_from ns + 7 * k + 4) 0) (coded.small _), small_degrees (get_or ns (days_from ns + 7 * k + 5) 0) (coded.small _)) refl
