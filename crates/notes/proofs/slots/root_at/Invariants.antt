-- `notes::slots::root_at` meets its contract: the slots from i on, after r, give the root of v. Assumes nothing.
use Prim.Native.Nat.{◌-◌, ◌+◌, ◌*◌}
use mathlib.Core.Path.{◌≡◌}
use Rattle.notes.specs.Ready.{RootFine}
use Rattle.model.specs.Layout.{read_slots, decode}
use Rattle.model.specs.Walk.{root_at, root_from}
use Rattle.notes.proofs.slots.root_at.Given as goal

abbrev pub invariant-loop-i : goal.invariant-loop-i
invariant-loop-i l = (root_at (decode l.l.least l.s).slots l.v ≡ root_from l.r (read_slots l.s (512 * l.l.least + 32 * l.i) (l.i-end - l.i)) l.v)
    × RootFine l.l.least l.s l.r
