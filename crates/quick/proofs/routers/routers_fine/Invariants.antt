-- The whole's answer is that of the routers from place i on. Assumes nothing.
use Prim.Native.Nat.{◌≤◌, ◌-◌, ◌+◌, ◌*◌}
use mathlib.Core.Path.{◌≡◌}
use Rattle.model.specs.Layout.{read_entries, decode}
use Rattle.spans.specs.Quick.{kept, routers_fine}
use Rattle.quick.specs.Routers.{entries_at}
use Rattle.quick.proofs.routers.routers_fine.Given as goal

abbrev pub invariant-loop-i : goal.invariant-loop-i
invariant-loop-i l = (l.rest ≤ l.left)
    × (routers_fine l.l.least l.old l.up (decode l.l.least l.s).pages (kept l.old (entries_at l.l.least l.s l.n))
    ≡ routers_fine l.l.least l.old l.up (decode l.l.least l.s).pages (kept l.old (read_entries l.p (128 + 96 * l.i) (l.count - l.i))))
