-- `pass` meets its contract. Assumes nothing.
use lib.ListN.{length}
use Rattle.model.specs.Layout.{decode}
use Rattle.model.specs.Walk.{key_limit}
use Rattle.differ.specs.Listing.{between, left_of}
use Rattle.back.specs.Going.{Going}
use Rattle.back.specs.Pass.{passed}
use mathlib.Core.Path.{◌≡◌}
use Prim.Native.Nat.{◌+◌, ◌-◌, ◌≤◌}
use Rattle.back.proofs.pass.Given as goal

abbrev pub invariant-loop-key : goal.invariant-loop-key
invariant-loop-key l = (l.key ≤ key_limit + 1) × Going l.l l.s l.v l.w
    × (passed l.insert l.l.least (between l.l l.initial.s l.w l.v) (decode l.l.least l.initial.s)
    ≡ passed l.insert l.l.least (left_of l.l l.s l.w l.v l.key) (decode l.l.least l.s))
    × (length l.s ≡ length l.initial.s)

abbrev pub decreases-loop-key : goal.decreases-loop-key
decreases-loop-key l = key_limit + 1 - l.key
