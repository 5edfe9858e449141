-- `local::pages::zero_from` meets its contract: what is left to test answers as the whole. Assumes nothing.
use Prim.Native.Nat.{◌≤◌, ◌-◌}
use mathlib.Core.Path.{◌≡◌}
use Rattle.model.specs.Clean.{zero_from}
use Rattle.local.proofs.pages.zero_from.Given as goal

abbrev pub invariant-loop-k : goal.invariant-loop-k
invariant-loop-k l = (l.k ≤ l.b) × (zero_from l.s l.a l.b ≡ zero_from l.s l.k l.b)

abbrev pub decreases-loop-k : goal.decreases-loop-k
decreases-loop-k l = l.b - l.k
