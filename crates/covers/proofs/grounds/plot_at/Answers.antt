-- `grounds::plot_at` meets its contract: each number is read at its place in the slot.
use Rattle.std.proofs.Common.{◌≡◌, ap, ◌∙◌, ℕ, ◌*◌}
use Rattle.covers.specs.Plots.{plot_at, plot_by}
use Rattle.covers.proofs.grounds.plot_at.Goals.{After-small_index-at}
use Rattle.covers.proofs.grounds.plot_at.Goals as goal

-- a number of the slot as an index is one of the slot
of_slot : (c : goal.After-small_index-at) (k : ℕ) → plot_at c.args.plots.now c.small_index-at.result k ≡ plot_at c.args.plots.now c.args.slot k
of_slot c k = ap (λ (s : ℕ). plot_at c.args.plots.now s k) c.small_index-at.ensures.0

pub returns : goal.returns
unfolding plot_by
returns c =
    λ k. record {
      intercepted = (c.depth.ensures ∙ c.plot_number.ensures ∙ of_slot (goal.at.returns c).After-small_index-at 0) k;
      rain = (c.depth-2.ensures ∙ c.plot_number-2.ensures ∙ of_slot (goal.at.returns c).After-small_index-at 1) k;
      snowfall = (c.depth-3.ensures ∙ c.plot_number-3.ensures ∙ of_slot (goal.at.returns c).After-small_index-at 2) k;
      curve = (c.plot_number-curve.ensures ∙ of_slot (goal.at.returns c).After-small_index-at 3) k;
      capacity = (c.capacity.ensures ∙ ap (λ (d : ℕ). c.args.available * d) (c.plot_number-4.ensures ∙ of_slot (goal.at.returns c).After-small_index-at 4)) k;
      largest = (c.depth-4.ensures ∙ c.plot_number-5.ensures ∙ of_slot (goal.at.returns c).After-small_index-at 5) k;
    }
