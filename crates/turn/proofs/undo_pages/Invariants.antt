-- `undo_pages` meets its contract. Assumes nothing.
use Prim.Native.Nat.{◌≤◌}
use mathlib.Core.Path.{◌≡◌}
use lib.ListN.{length}
use Rattle.model.specs.Layout.{decode}
use Rattle.turn.proofs.laws.Undone.{Undone}
use Rattle.turn.proofs.undo_pages.Given as goal

abbrev pub invariant-loop-n : goal.invariant-loop-n
invariant-loop-n l = (5 ≤ l.n) × (l.n ≤ l.size) × (length l.s ≡ length l.initial.s) × Undone l.l.least (decode l.l.least l.initial.s) l.w l.n l.s
