-- `parts::first_free` meets its contract: the free pages from page n on are those from page i on. Assumes nothing.
use mathlib.Core.Path.{◌≡◌}
use Rattle.parts.specs.Free.{free_past}
use Rattle.parts.specs.Kept.{pages_of}
use Rattle.parts.proofs.free.first_free.Given as goal

abbrev pub invariant-loop-i : goal.invariant-loop-i
invariant-loop-i l = free_past (pages_of l.l l.s) l.n ≡ free_past (pages_of l.l l.s) l.i
