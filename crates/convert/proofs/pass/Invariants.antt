-- `pass` meets its contract. Assumes nothing.
use lib.ListN.{length}
use Rattle.model.specs.Layout.{decode}
use Rattle.model.specs.Walk.{key_limit}
use Rattle.differ.specs.Listing.{between, left_of}
use Rattle.back.specs.Pass.{passed}
use Rattle.convert.specs.Ready.{UpdateOpen, shown}
use Rattle.convert.specs.Due.{Due}
use mathlib.Core.Path.{◌≡◌}
use Prim.Native.Nat.{◌+◌, ◌-◌, ◌≤◌}
use Rattle.convert.proofs.pass.Given as goal

abbrev pub invariant-loop-key : goal.invariant-loop-key
invariant-loop-key l = (l.key ≤ key_limit + 1) × UpdateOpen l.l l.t × Due l.insert (shown l.l l.t) (left_of l.k l.s l.u l.v l.key)
    × (passed l.insert l.l.least (between l.k l.s l.u l.v) (decode l.l.least l.initial.t)
    ≡ passed l.insert l.l.least (left_of l.k l.s l.u l.v l.key) (decode l.l.least l.t))
    × (length l.t ≡ length l.initial.t)

abbrev pub decreases-loop-key : goal.decreases-loop-key
decreases-loop-key l = key_limit + 1 - l.key
