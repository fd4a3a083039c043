-- The cover table: 1 to 64 entries of 16 numbers each, in the order in which the program reads them.
use Rattle.std.specs.Prelude.{Bool, true, ◌&&◌, List, ℕ, zero, suc, ◌+◌, ◌*◌, ◌/◌, ◌%◌, eqb, leb, ltb, length, get_or}
use Rattle.paper.specs.Limits.{
  within,
  most_covers,
  most_code,
  least_curve_number,
  most_curve_number,
  most_largest_recharge,
  most_interception,
  most_root_depth,
}

-- number k of entry e
abbrev pub number_of : List ℕ → ℕ → ℕ → ℕ
number_of covers e k = get_or covers (16 * e + k) 0

abbrev pub code_of : List ℕ → ℕ → ℕ
code_of covers e = get_or covers (16 * e) 0

abbrev pub open_of : List ℕ → ℕ → ℕ
open_of covers e = number_of covers e 1

-- soil groups A to D are 1 to 4
abbrev pub curve_number_of : List ℕ → ℕ → ℕ → ℕ
curve_number_of covers e group = number_of covers e (1 + group)

abbrev pub largest_of : List ℕ → ℕ → ℕ → ℕ
largest_of covers e group = number_of covers e (5 + group)

abbrev pub growing_of : List ℕ → ℕ → ℕ
growing_of covers e = number_of covers e 10

abbrev pub dormant_of : List ℕ → ℕ → ℕ
dormant_of covers e = number_of covers e 11

abbrev pub root_depth_of : List ℕ → ℕ → ℕ → ℕ
root_depth_of covers e group = number_of covers e (11 + group)

unfoldable pub entries : List ℕ → ℕ
entries covers = length covers / 16

unfoldable pub size_fits : List ℕ → Bool
size_fits covers = eqb (length covers % 16) 0 && within 1 most_covers (entries covers)

unfoldable pub group_fits : List ℕ → ℕ → ℕ → Bool
group_fits covers e group =
    within least_curve_number most_curve_number (curve_number_of covers e group)
    && leb (largest_of covers e group) most_largest_recharge
    && leb (root_depth_of covers e group) most_root_depth

-- codes strictly rising: an entry's code is above the one before it
unfoldable pub rises : List ℕ → ℕ → Bool
rises covers zero = true
rises covers (suc e) = ltb (code_of covers e) (code_of covers (suc e))

unfoldable pub entry_fits : List ℕ → ℕ → Bool
entry_fits covers e =
    rises covers e
    && within 1 most_code (code_of covers e)
    && leb (open_of covers e) 1
    && group_fits covers e 1
    && group_fits covers e 2
    && group_fits covers e 3
    && group_fits covers e 4
    && leb (growing_of covers e) most_interception
    && leb (dormant_of covers e) most_interception
