-- `onward` meets its contract. Assumes nothing.
use mathlib.Core.Path.{refl}
use native.Mathlib.Omega.{arith}
use Rattle.back.proofs.onward.Goals as goal

pub returns-then-key-high : goal.returns-then-key-high
returns-then-key-high c = (record { low = omega arith; high = c.requires.2 }, refl)
