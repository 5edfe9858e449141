-- `past` meets its contract. Assumes nothing.
use Rattle.differ.specs.Listing.{left_of}
use Rattle.model.specs.Walk.{key_limit}
use mathlib.Core.Path.{◌≡◌}
use Prim.Native.Nat.{◌-◌, ◌≤◌}
use Rattle.differ.proofs.past.Given as goal

abbrev pub invariant-loop-key : goal.invariant-loop-key
invariant-loop-key l = (l.key ≤ key_limit) × (l.from ≤ l.key) × (left_of l.l l.s l.u l.v l.from ≡ left_of l.l l.s l.u l.v l.key)

abbrev pub decreases-loop-key : goal.decreases-loop-key
decreases-loop-key l = key_limit - l.key
