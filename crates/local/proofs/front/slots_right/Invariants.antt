-- `local::front::slots_right` meets its contract: the slots from i on answer as all. Assumes nothing.
use Prim.Native.Nat.{◌≤◌, ◌-◌, ◌+◌, ◌*◌}
use mathlib.Core.Path.{◌≡◌}
use Rattle.model.specs.Layout.{read_slots}
use Rattle.local.specs.Front.{slots_from}
use Rattle.local.proofs.front.slots_right.Given as goal

abbrev pub invariant-loop-i : goal.invariant-loop-i
invariant-loop-i l = (l.top ≤ 1048574)
    × (slots_from l.size l.old l.last 0 l.old (read_slots l.s (512 * l.l.least) l.roots)
    ≡ slots_from l.size l.old l.last l.low l.top (read_slots l.s (512 * l.l.least + 32 * l.i) (l.roots - l.i)))
