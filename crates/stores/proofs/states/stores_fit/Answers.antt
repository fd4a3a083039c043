-- `states::stores_fit` meets its contract: its limits are those of the cell of the slot.
use Rattle.theory.proofs.Widths.{product_fits}
use Rattle.stores.proofs.StateLaws.{stores_limits}
use Rattle.stores.proofs.states.stores_fit.Goals as goal

pub overflow_mul-result : goal.overflow_mul-result
overflow_mul-result c = record { fits = product_fits _ _ c.within_32.ensures.1 c.within_32-2.ensures.1 }

pub returns : goal.returns
returns c =
    let small = c.small_index-at in
    rw (
      c.wide.ensures,
      c.within_32.ensures.0,
      c.within_32-2.ensures.0,
      c.snow_fits.ensures,
      small.ensures.0,
    )
    (stores_limits _ _ c.requires c.args.slot c.args.available c.args.soil c.args.snow
    (rw small.ensures.0 at small.ensures.1))
