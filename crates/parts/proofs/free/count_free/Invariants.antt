-- `parts::count_free` meets its contract: those counted and the free pages from page i on are all. Assumes nothing.
use Prim.Native.Nat.{◌+◌, ◌≤◌}
use mathlib.Core.Path.{◌≡◌}
use lib.ListN.{length}
use Rattle.parts.specs.Free.{free_past}
use Rattle.parts.specs.Kept.{pages_of}
use Rattle.parts.proofs.free.count_free.Given as goal

abbrev pub invariant-loop-i : goal.invariant-loop-i
invariant-loop-i l = (l.n + 5 ≤ l.i) × (length (free_past (pages_of l.l l.s) 5) ≡ l.n + length (free_past (pages_of l.l l.s) l.i))
