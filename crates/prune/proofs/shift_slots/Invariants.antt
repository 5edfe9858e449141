-- `shift_slots` meets its contract. Assumes nothing.
use Prim.Native.Nat.{◌≤◌}
use mathlib.Core.Path.{◌≡◌}
use lib.ListN.{length}
use Rattle.model.specs.Layout.{decode}
use Rattle.prune.proofs.laws.Whole.{Shifted}
use Rattle.prune.proofs.shift_slots.Given as goal

abbrev pub invariant-loop-i : goal.invariant-loop-i
invariant-loop-i l = (l.i ≤ l.roots) × (length l.s ≡ length l.initial.s) × Shifted l.l.least (decode l.l.least l.initial.s) l.k l.i l.s
