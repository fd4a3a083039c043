-- `headers::named` meets its contract: the six names, one by one.
use Rattle.std.proofs.Common.{refl}
use Rattle.words.specs.Digits.{bytes}
use Rattle.grids.specs.Headers.{is_name, named}
use Rattle.grids.proofs.headers.named.Goals as goal

pub returns : goal.returns
unfolding named is_name bytes
returns c =
    rw (
      c.named_at.ensures,
      c.named_at-2.ensures,
      c.named_at-3.ensures,
      c.named_at-4.ensures,
      c.named_at-5.ensures,
      c.named_at-6.ensures,
    )
    refl
