use Prim.Native.Nat.{suc, ◌≤◌, ◌-◌, ◌+◌, ◌*◌}
use mathlib.Core.Path.{◌≡◌}
use lib.ListN.{length}
use Rattle.model.specs.Basic.{those}
use Rattle.model.specs.Inner.{throughout}
use Rattle.model.specs.Layout.{read_entries}
use Rattle.quick.proofs.part.through_count.Given as goal

abbrev pub invariant-loop-i : goal.invariant-loop-i
invariant-loop-i l =
    (l.c ≤ l.i) × (l.c ≤ l.m)
    × (length (those (throughout l.a (suc l.z)) (read_entries l.page 128 l.n))
    ≡ l.c + length (those (throughout l.a (suc l.z)) (read_entries l.page (128 + 96 * l.i) (l.n - l.i))))
