use Rattle.quick.specs.Sums.{Sums, add_slots}
use Rattle.model.specs.Layout.{read_header, read_slots, decode}
use Prim.Native.Nat.{◌+◌, ◌*◌, ◌-◌}
use mathlib.Core.Path.{◌≡◌}
use Rattle.quick.proofs.sums.add_slots.Given as goal

abbrev pub invariant-loop-i : goal.invariant-loop-i
invariant-loop-i l = (l.roots ≡ (read_header l.l.least l.s).roots) × Sums l.i l.sums
    × (add_slots l.old l.initial.sums (decode l.l.least l.s).slots ≡ add_slots l.old l.sums (read_slots l.s (512 * l.l.least + 32 * l.i) (l.roots - l.i)))
