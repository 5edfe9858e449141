use Prim.Native.Nat.{◌≤◌, ◌-◌}
use mathlib.Core.Path.{◌≡◌}
use mathlib.Core.Bool.{◌&&◌}
use Rattle.model.specs.Basic.{all, count}
use Rattle.model.specs.Layout.{decode}
use Rattle.notes.specs.Kept.{Kept}
use Rattle.notes.specs.Pass.{keys_on, full_on}
use Rattle.notes.proofs.pass.stretch.Given as goal

abbrev pub invariant-loop-v : goal.invariant-loop-v
invariant-loop-v l = (l.a ≤ l.v) × (l.v ≤ l.c) × Kept l.l.least (decode l.l.least l.s).pages l.v l.notes
    × (all (keys_on l.l.least l.up (decode l.l.least l.s).pages l.root) (count l.a (l.c - l.a))
    ≡ all (keys_on l.l.least l.up (decode l.l.least l.s).pages l.root) (count l.v (l.c - l.v)))
    × (all (full_on l.l.least l.up (decode l.l.least l.s).pages l.root) (count l.a (l.c - l.a))
    ≡ (l.full && all (full_on l.l.least l.up (decode l.l.least l.s).pages l.root) (count l.v (l.c - l.v))))

abbrev pub decreases-loop-v : goal.decreases-loop-v
decreases-loop-v l = l.c - l.v
