-- `replay` meets its contract. Assumes nothing.
use lib.ListN.{length}
use Rattle.model.specs.Layout.{decode}
use Rattle.model.specs.Convert.{replay}
use Rattle.convert.specs.Version.{Replaying}
use mathlib.Core.Path.{◌≡◌}
use Prim.Native.Nat.{◌-◌, ◌≤◌}
use Rattle.convert.proofs.replay.Given as goal

abbrev pub invariant-loop-v : goal.invariant-loop-v
invariant-loop-v l = (l.v ≤ (decode l.k.least l.s).current) × Replaying l.k l.s l.l l.t l.v
    × (replay l.l.least (decode l.k.least l.s) 0 (decode l.k.least l.s).current (decode l.l.least l.initial.t)
    ≡ replay l.l.least (decode l.k.least l.s) l.v ((decode l.k.least l.s).current - l.v) (decode l.l.least l.t))
    × (length l.t ≡ length l.initial.t)

abbrev pub decreases-loop-v : goal.decreases-loop-v
decreases-loop-v l = (decode l.k.least l.s).current - l.v
