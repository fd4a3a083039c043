-- Rule 2, interception (004, a bucket): the smaller of gross precipitation and the cover's figure for the season. The rest is net.
use Rattle.std.specs.Prelude.{ℕ, ◌-◌, min}

unfoldable pub intercepted : ℕ → ℕ → ℕ
intercepted gross figure = min gross figure

unfoldable pub net : ℕ → ℕ → ℕ
net gross figure = gross - intercepted gross figure
