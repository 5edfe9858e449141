-- `root_among` meets its contract. Assumes nothing.
use Prim.Native.Nat.{◌≤◌, ◌*◌}
use mathlib.Core.Path.{◌≡◌}
use Rattle.model.specs.Layout.{read_slots, decode}
use Rattle.model.specs.Walk.{root_at}
use Rattle.walk.proofs.root_among.Given as goal

abbrev pub invariant-loop-i : goal.invariant-loop-i
invariant-loop-i l = (l.i ≤ l.initial.i) × (root_at (decode l.l.least l.s).slots l.v ≡ root_at (read_slots l.s (512 * l.l.least) l.i) l.v)
