use Rattle.spans.specs.Quick.{slots_fine}
use Rattle.model.specs.Layout.{decode, read_header, read_slots}
use Prim.Native.Nat.{◌+◌, ◌*◌, ◌-◌}
use mathlib.Core.Path.{◌≡◌}
use Rattle.quick.proofs.slots.slots_fine.Given as goal

abbrev pub invariant-loop-i : goal.invariant-loop-i
invariant-loop-i l = (l.roots ≡ (read_header l.l.least l.s).roots)
    × (slots_fine l.l.least (decode l.l.least l.s).oldest (decode l.l.least l.s).pages (decode l.l.least l.s).slots
    ≡ slots_fine l.l.least l.h.oldest (decode l.l.least l.s).pages (read_slots l.s (512 * l.l.least + 32 * l.i) (l.roots - l.i)))
