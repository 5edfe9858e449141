use Rattle.plan.specs.Plan.{ups_of}
use Rattle.parts.specs.Kept.{pages_of}
use Rattle.gather.specs.Kept.{Fits}
use Rattle.edit.specs.Change.{change_of}
use Rattle.outlook.specs.Plan.{plan_up}
use mathlib.Core.Path.{◌≡◌}
use Prim.Native.Nat.{◌+◌, ◌*◌, ◌≤◌}
use Rattle.plan.proofs.plan_up.Given as goal

abbrev pub invariant-loop-k : goal.invariant-loop-k
invariant-loop-k l = (l.k ≤ l.way.n) × Fits l.d × (l.free + 2 * l.k ≤ l.initial.free + 2 * l.way.n)
    × (plan_up l.l.least l.w (pages_of l.l l.s) l.way.root (ups_of l.way.list l.way.n) (change_of l.initial.d) l.initial.free
    ≡ plan_up l.l.least l.w (pages_of l.l l.s) l.way.root (ups_of l.way.list l.k) (change_of l.d) l.free)
