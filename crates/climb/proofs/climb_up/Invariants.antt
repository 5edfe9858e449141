use Prim.Native.Nat.{◌≤◌}
use mathlib.Core.Path.{◌≡◌}
use Rattle.edit.specs.Change.{change_of}
use Rattle.gather.specs.Kept.{Fits}
use Rattle.parts.specs.Becomes.{Becomes}
use Rattle.parts.specs.Kept.{pages_of}
use Rattle.plan.specs.Plan.{ups_of}
use Rattle.climb.specs.Climb.{climb_up}
use Rattle.climb.proofs.climb_up.Given as goal

abbrev pub invariant-loop-k : goal.invariant-loop-k
invariant-loop-k l = (l.k ≤ l.initial.k) × Fits l.d × Becomes l.l l.initial.s l.s (pages_of l.l l.s)
    × (climb_up l.l.least l.w (ups_of l.list l.k) (change_of l.d) (pages_of l.l l.s) ≡ climb_up l.l.least l.w (ups_of l.list l.initial.k) (change_of l.initial.d) (pages_of l.l l.initial.s))
