-- `notes::both::both_on` meets its contract: what holds of the whole stretch is what holds from v on. Assumes nothing.
use Prim.Native.Nat.{◌≤◌, ◌-◌}
use mathlib.Core.Path.{◌≡◌}
use Rattle.model.specs.Layout.{decode}
use Rattle.notes.specs.Kept.{Kept}
use Rattle.notes.specs.Both.{both_on}
use Rattle.notes.proofs.both.both_on.Given as goal

abbrev pub invariant-loop-v : goal.invariant-loop-v
invariant-loop-v l = (l.v ≤ l.c) × Kept l.l.least (decode l.l.least l.s).pages l.v l.notes
    × (l.a ≤ l.v) × (both_on l.l.least l.up (decode l.l.least l.s).pages l.root l.a l.c ≡ both_on l.l.least l.up (decode l.l.least l.s).pages l.root l.v l.c)

abbrev pub decreases-loop-v : goal.decreases-loop-v
decreases-loop-v l = l.c - l.v
