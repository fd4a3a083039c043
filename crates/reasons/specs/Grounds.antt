-- What a cell's soil and cover can take, by its own numbers.
use Rattle.std.specs.Prelude.{Bool, List, ℕ, ◌*◌, eqb}
use Rattle.theory.specs.Lowest.{lowest}
use Rattle.paper.specs.Covers.{code_of, open_of, largest_of, root_depth_of, entries}
use Rattle.paper.specs.Setup.{place_or}
use Rattle.reasons.specs.declared.grounds.Ground as code

pub record Ground : Type 0 where
  pub open? : Bool
  pub capacity : ℕ
  pub largest : ℕ

abbrev pub ground_as : code.Ground → Ground
ground_as g = record { open? = g.open_water; capacity = g.capacity.0; largest = g.largest_recharge.0 }

-- the paper's `entry_of`, of a code
unfoldable pub entry_for : List ℕ → ℕ → ℕ
entry_for covers code = place_or (entries covers) (lowest (entries covers) (λ e. eqb (code_of covers e) code))

unfoldable pub ground_by : List ℕ → ℕ → ℕ → ℕ → Ground
ground_by covers code group available =
    record {
      open? = eqb (open_of covers (entry_for covers code)) 1;
      capacity = available * root_depth_of covers (entry_for covers code) group;
      largest = largest_of covers (entry_for covers code) group;
    }
